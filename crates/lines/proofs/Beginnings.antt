-- Before a program answers, by the tests that the code makes. Assumes nothing.
use Prim.Native.Nat.{ℕ, ◌+◌, ◌≤◌, ◌<◌}
use native.Mathlib.Omega.{arith}
use mathlib.Core.Path.{◌≡◌, refl}
use mathlib.Core.Bool.{true, false}
use mathlib.Core.List.{List, [], ◌++◌}
use borrow.Author.Tests.{le-leb, lt-leb, leb-true}
use lib.Dec.{leb}
use lib.ListN.{length, length-append}
use Rattle.model.specs.Runs.{Stored, Holds}
use Rattle.model.proofs.Lists.{and-true, and-false}
use Rattle.model.proofs.Storing.{stored-holds}
use Rattle.lines.specs.Text.{codes}
use Rattle.lines.specs.Book.{max_output}
use Rattle.lines.specs.Said.{unread, roomy, Begun}
use Rattle.std.specs.Prelude.{Option, Some, None, Ok, Err}
use Rattle.std.specs.Borrow.{Bor}

-- nothing stands at the front, and all is as it was
pub holds-nothing : (l : List ℕ) → Holds l [] l 0
holds-nothing l = record { count = refl; whole = refl }

pub unread-parts : (name : List ℕ) → name ++ codes ": standard input could not be read\n" ≡ unread name
unfolding unread
unread-parts name = refl

pub unread-size : (name : List ℕ) → length (unread name) ≡ length name + 35
unfolding unread
unread-size name = length-append name (codes ": standard input could not be read\n")

module _ (name : List ℕ) (out err : ℕ) where
  pub small-output : out < max_output → roomy name out err ≡ false
  unfolding roomy
  small-output h = rw (lt-leb max_output out h)

  pub small-error : err < length name + 35 → roomy name out err ≡ false
  unfolding roomy
  small-error h = rw (unread-size name, lt-leb (length name + 35) err h) (and-false (leb max_output out))

  pub room_enough : max_output ≤ out → length name + 35 ≤ err → roomy name out err ≡ true
  unfolding roomy
  room_enough h k = rw (unread-size name, le-leb max_output out h, le-leb (length name + 35) err k)

  pub roomy-output : roomy name out err ≡ true → max_output ≤ out
  unfolding roomy
  roomy-output e = leb-true max_output out (and-true (leb max_output out) (leb (length (unread name)) err) e).0

module _ (name : List ℕ) (room : ℕ) (err err' : List ℕ) where
  pub begun_silent : (input : Option (Bor (List ℕ))) → roomy name room (length err) ≡ false → Begun name input room err err (Err 0)
  begun_silent input e = record { start = rw e; line = rw e (holds-nothing err) }

  pub begun_answer : (b : Bor (List ℕ)) → roomy name room (length err) ≡ true → Begun name (Some b) room err err (Ok b)
  begun_answer b e = record { start = rw e; line = rw e (holds-nothing err) }

  pub begun_unread : (q : ℕ) → roomy name room (length err) ≡ true → length name + 35 ≤ length err → Stored err err' 0 q (unread name) → Begun name None room err err' (Err q)
  begun_unread q e h s =
      let o = stored-holds (omega (arith, unread-size name)) s in
      let z : q ≡ length (unread name) = o.count in
      record { start = rw (e, z); line = rw e (rw z at o) }
