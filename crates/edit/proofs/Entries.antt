-- The edits' refusals in their order: 10, then what the checker says, then the edit of a sound shelf. Assumes nothing.
use Prim.Native.Nat.{ℕ, ◌≤◌}
use native.Mathlib.Omega.{arith}
use mathlib.Core.Path.{◌≡◌}
use mathlib.Core.List.{List}
use mathlib.Core.Bool.{true, false}
use borrow.Author.Tests.{lt-ltb, le-ltb, le-leb}
use Rattle.model.specs.Limits.{max_score}
use Rattle.model.specs.Outcome.{Outcome, refused, done, and_then}
use Rattle.model.proofs.Lists.{and-false}
use Rattle.shelf.specs.Walk.{Listing}
use Rattle.shelf.specs.Check.{checked, judged}
use Rattle.change.specs.Edits.{Edit, Set}
use Rattle.change.specs.Bytes.{pieces, docid_in, in_range, settled, edited}

module _ (e : Edit) (s : List ℕ) (room : ℕ) where
  pub edited_range : in_range e ≡ false → edited e s room ≡ refused 10 0
  unfolding edited
  edited_range h = rw h

  module _ (ranged : in_range e ≡ true) where
    pub edited-sound : (ls : List Listing) → checked s ≡ done ls → edited e s room ≡ settled e (pieces s ls) room
    unfolding edited
    edited-sound ls c = rw (ranged, c)

    pub edited-fault : (n o : ℕ) → judged (checked s) ≡ refused n o → edited e s room ≡ refused n o
    unfolding edited
    edited-fault n o j = rw ranged (go (checked s) j)
      where
        go : (r : Outcome (List Listing)) → judged r ≡ refused n o → and_then r (λ ls. settled e (pieces s ls) room) ≡ refused n o
        go (refused k p) q = let f : k ≡ n = cc in let g : p ≡ o = cc in rw (f, g)
        go (done ls) q = let z : ◌≡◌ {A = ℕ} 0 1 = cc in absurd (omega arith)

-- ---- the range of a set

module _ (t d w : ℕ) where
  pub set-docid-out : docid_in d ≡ false → in_range (Set t d w) ≡ false
  set-docid-out h = rw h

  pub set-score-out : w ≡ 0 → in_range (Set t d w) ≡ false
  set-score-out h = rw (le-ltb 0 w (omega arith)) (and-false (docid_in d))

  pub set_in_range : docid_in d ≡ true → (w ≡ 0 → ⊥) → w ≤ max_score → in_range (Set t d w) ≡ true
  set_in_range h z l = rw (h, lt-ltb 0 w (omega arith), le-leb w 65535 l)
