-- `rank_found` meets its contract: by what the merge says of the bodies. Assumes nothing.
use Prim.Native.Nat.{ℕ}
use mathlib.Core.Path.{◌≡◌, refl, sym, ap, ◌∙◌}
use native.Mathlib.Omega.{arith}
use lib.ListN.{length}
use Rattle.exhaustive.specs.Merge.{lists_from, wrong_of}
use Rattle.exhaustive.proofs.Opens.{start-fault}
use Rattle.exhaustive.proofs.Alls.{fault_refuses}
use Rattle.std.specs.Prelude as prelude
use Rattle.std.specs.Prelude.{IsSome}
use mathlib.Core.Option.{Option, none}
use Rattle.exhaustive.proofs.all.rank_found.Goals as goal

found_some : (r : prelude.Option ℕ) (f : Option ℕ) → wrong_of r ≡ f → (f ≡ none → ⊥) → IsSome r
found_some (prelude.Some o) f e n = refl
found_some prelude.None f e n = absurd (n (sym e))

pub unwrap-at-requires : goal.unwrap-at-requires
unwrap-at-requires c =
    let a = c.args in
    let w : length a.weights ≡ 8 = c.well_formed.1.1.1.0.1.0.1 in
    let n : length a.ats ≡ 8 = c.well_formed.1.0.1.0.1 in
    found_some c.first_wrong.result _ (c.first_wrong.ensures ∙ start-fault a.shelf.now a.weights a.ats a.counts (omega arith)) c.in_default.ensures

pub returns-in_default : goal.returns-in_default
returns-in_default c =
    let a = c.args in
    let w : length a.weights ≡ 8 = c.well_formed.1.1.1.0.1.0.1 in
    let n : length a.ats ≡ 8 = c.well_formed.1.0.1.0.1 in
    let first = c.first_wrong.ensures ∙ start-fault a.shelf.now a.weights a.ats a.counts (omega arith) in
    rw c.at.ensures (fault_refuses a.k (lists_from a.shelf.now a.weights a.ats a.counts) c.unwrap-at.result (sym first ∙ ap wrong_of c.unwrap-at.ensures))
