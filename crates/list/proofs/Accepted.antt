-- The writer gives bytes for postings that may be written and fit, and for no others. Assumes nothing.
use Prim.Native.Nat.{ℕ, ◌≤◌, max}
use native.Mathlib.Omega.{arith}
use mathlib.Core.Path.{◌≡◌, refl}
use mathlib.Core.Bool.{Bool}
use mathlib.Core.List.{List}
use borrow.Author.Tests.{ltb-false, eqb-true, eqb-false}
use lib.Dec.{ltb, eqb}
use lib.ListN.{length}
use Rattle.model.specs.Outcome.{Outcome, refused, done}
use Rattle.model.specs.Post.{postings}
use Rattle.model.proofs.Lists.{split}
use Rattle.model.proofs.Posts.{count_of}
use Rattle.list.specs.Write.{list_bytes, fault_at, write_list, Paired}
use Rattle.list.proofs.Faults.{no_fault, may_write, write_done}

-- what is known of bytes that were given
pub record Accepted (strip : Bool) (t : ℕ) (ds ss : List ℕ) (room : ℕ) (v : List ℕ) : Type 0 where
  pub paired : Paired ds ss
  pub bytes : v ≡ list_bytes strip t (postings ds ss)
  pub fits : length v ≤ room

abbrev AcceptedIf : (strip : Bool) (t : ℕ) (ds ss : List ℕ) (room : ℕ) → Outcome (List ℕ) → Type 0
AcceptedIf strip t ds ss room (refused n o) = Unit {0}
AcceptedIf strip t ds ss room (done v) = Accepted strip t ds ss room v

accepted : (strip : Bool) (t : ℕ) (ds ss : List ℕ) (room : ℕ) → AcceptedIf strip t ds ss room (write_list strip t ds ss room)
unfolding write_list
accepted strip t ds ss room =
    split (ltb 6400 (max (length ds) (length ss)))
    (λ a. rw a tt)
    (λ a. split (eqb (length ds) (length ss))
    (λ b. split (eqb (length ds) 0)
    (λ c. rw (a, b, c) tt)
    (λ c. split (ltb (fault_at 0 (postings ds ss)) (length ds))
    (λ d. rw (a, b, c, d) tt)
    (λ d. split (ltb room (length (list_bytes strip t (postings ds ss))))
    (λ e. rw (a, b, c, d, e) tt)
    (λ e.
    let few : max (length ds) (length ss) ≤ 6400 = ltb-false _ _ a in
    let some : length ds ≡ 0 → ⊥ = eqb-false _ _ c in
    rw (a, b, c, d, e)
    (record {
      paired = may_write ds ss (eqb-true _ _ b) (pos (length ds) some) (omega arith) (ltb-false _ _ d);
      bytes = refl;
      fits = ltb-false _ _ e;
    })))))
    (λ b. rw (a, b) tt))
  where
    pos : (n : ℕ) → (n ≡ 0 → ⊥) → 1 ≤ n
    pos n h = omega arith

-- the writer gives bytes only for postings that may be written, and then those of their list
pub written-accepted : (strip : Bool) (t : ℕ) (ds ss : List ℕ) (room : ℕ) (v : List ℕ) → write_list strip t ds ss room ≡ done v → Accepted strip t ds ss room v
written-accepted strip t ds ss room v e = rw e at (accepted strip t ds ss room)

-- and it refuses none of them for which there is room
pub accepted-written : (strip : Bool) (t : ℕ) (ds ss : List ℕ) (room : ℕ) → Paired ds ss → length (list_bytes strip t (postings ds ss)) ≤ room →
    write_list strip t ds ss room ≡ done (list_bytes strip t (postings ds ss))
accepted-written strip t ds ss room p h =
    let w = p.may in
    let n = count_of ds ss p.same in
    let f = no_fault 0 (postings ds ss) (record { rise = w.rise; scores = w.scores; last = w.last }) in
    write_done strip t ds ss room (omega (arith, p.same, w.few)) p.same (λ z. omega (arith, w.some)) (omega arith) h
