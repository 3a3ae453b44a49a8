-- A program that answers after its beginning says what its definition says. Assumes nothing.
use Prim.Native.Nat.{ℕ, ◌≤◌}
use native.Mathlib.Omega.{arith}
use mathlib.Core.Path.{◌≡◌, refl, ap}
use mathlib.Core.Bool.{Bool, true, false}
use mathlib.Core.List.{List, []}
use lib.ListN.{length, drop, length-append}
use Rattle.model.specs.Runs.{Holds}
use Rattle.lines.specs.Book.{max_output}
use Rattle.lines.specs.Said.{unread, roomy, Words, words_of, Says, Speaks, start_of, Begun}
use Rattle.lines.specs.declared.said.Said.{Said}
use Rattle.std.specs.Option.{is_some}
use Rattle.std.specs.Prelude.{Option, Some, None, Result, Ok, Err}
use Rattle.std.specs.Borrow.{Bor}
use Rattle.lines.proofs.Beginnings.{holds-nothing, roomy-output}

abbrev pub saying : (out err : ℕ) → Said
saying out err = record { out = out; err = err }

module _ (name answer out err err' : List ℕ) where
  stops : (room : Bool) (input : Option (Bor (List ℕ))) (n : ℕ) → Err n ≡ start_of room input name
      → Holds err (words_of room (is_some input) name []).err err' (length (words_of room (is_some input) name []).err)
      → Says (words_of room (is_some input) name answer) out err out err' (saying 0 n)
  stops false input n e h = let z : n ≡ 0 = cc in rw z (record { output = holds-nothing out; error = h })
  stops true None n e h = let z : n ≡ length (unread name) = cc in rw z (record { output = holds-nothing out; error = h })
  stops true (Some b) n e h = let z : ◌≡◌ {A = ℕ} 0 1 = cc in absurd (omega arith)

  answers : (out' : List ℕ) (room : Bool) (input : Option (Bor (List ℕ))) (b : Bor (List ℕ)) (q : ℕ) → Ok b ≡ start_of room input name
      → Holds err (words_of room (is_some input) name []).err err' (length (words_of room (is_some input) name []).err)
      → Holds out answer out' q → Says (words_of room (is_some input) name answer) out err out' err' (saying q 0)
  answers out' false input b q e h o = let z : ◌≡◌ {A = ℕ} 0 1 = cc in absurd (omega arith)
  answers out' true None b q e h o = let z : ◌≡◌ {A = ℕ} 0 1 = cc in absurd (omega arith)
  answers out' true (Some x) b q e h o = record { output = o; error = h }

  answered : (room : Bool) (input : Option (Bor (List ℕ))) (b : Bor (List ℕ)) → Ok b ≡ start_of room input name → (room ≡ true) × (input ≡ Some b)
  answered false input b e = let z : ◌≡◌ {A = ℕ} 0 1 = cc in absurd (omega arith)
  answered true None b e = let z : ◌≡◌ {A = ℕ} 0 1 = cc in absurd (omega arith)
  answered true (Some x) b e = let z : x ≡ b = cc in (refl, ap Some z)

  module _ (input : Option (Bor (List ℕ))) (r : Result (Bor (List ℕ)) ℕ) (b : Begun name input (length out) err err' r) where
    pub speaks_stop : (n : ℕ) → r ≡ Err n → Speaks name (is_some input) answer out err out err' (saying 0 n)
    speaks_stop n e = stops (roomy name (length out) (length err)) input n (rw e at b.start) b.line

    pub speaks_answer : (x : Bor (List ℕ)) (out' : List ℕ) (q : ℕ) → r ≡ Ok x → Holds out answer out' q → Speaks name (is_some input) answer out err out' err' (saying q 0)
    speaks_answer x out' q e o = answers out' (roomy name (length out) (length err)) input x q (rw e at b.start) b.line o

    -- the input is the one that was given
    pub answer-input : (x : Bor (List ℕ)) → r ≡ Ok x → input ≡ Some x
    answer-input x e = (answered (roomy name (length out) (length err)) input x (rw e at b.start)).1

    -- there is room for the answer
    pub answer-room : (x : Bor (List ℕ)) → r ≡ Ok x → max_output ≤ length out
    answer-room x e = roomy-output name (length out) (length err) (answered (roomy name (length out) (length err)) input x (rw e at b.start)).0

-- what is said lies within the runs
holds_fits : (old xs new : List ℕ) (n : ℕ) → Holds old xs new n → n ≤ length new
holds_fits old xs new n h = omega (arith, h.count, ap length h.whole, length-append xs (drop n old))

module _ (w : Words) (out err out' err' : List ℕ) (r : Said) (s : Says w out err out' err' r) where
  pub output-fits : r.out ≤ length out'
  output-fits = holds_fits out w.out out' r.out s.output

  pub error-fits : r.err ≤ length err'
  error-fits = holds_fits err w.err err' r.err s.error
