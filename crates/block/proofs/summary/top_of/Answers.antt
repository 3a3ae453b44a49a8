-- `block::summary::top_of` meets its contract. Assumes nothing.
use Rattle.std.proofs.lemmas.Iterator.{YieldsList-from_slice}
use Rattle.std.proofs.lemmas.Iterator.Adapters.{option_map_id}
use Rattle.std.proofs.lemmas.Iterator.Consumers.{YieldsList-from_copied, max_from_yields_List}
use Rattle.std.specs.List.{fold, reduce}
use Rattle.std.specs.Option.{unwrap_or}
use Rattle.model.specs.Post.{max_from}
use Prim.Native.Nat.{ℕ, max}
use native.Mathlib.Omega.{arith}
use mathlib.Core.List.{List, [], ◌∷◌}
use mathlib.Core.Path.{◌≡◌, refl, sym, ap, ◌∙◌}
use Rattle.block.proofs.summary.top_of.Goals as goal

max-fold : (m : ℕ) (xs : List ℕ) → fold max m xs ≡ max_from m xs
max-fold m [] = refl
max-fold m (x ∷ xs) = max-fold (max m x) xs

max-reduce : (xs : List ℕ) → unwrap_or (reduce max xs) 0 ≡ max_from 0 xs
max-reduce [] = refl
max-reduce (x ∷ xs) =
    let z : x ≡ max 0 x = omega arith in
    max-fold x xs ∙ ap (λ (m : ℕ). max_from m xs) z

pub returns : goal.returns
returns c =
    let s = c.args.scores.now in
    let m = sym (option_map_id _) ∙ max_from_yields_List _ _ c.max.ensures.ran (YieldsList-from_copied (YieldsList-from_slice s cc)) in
    c.unwrap_or.ensures ∙ ap (λ o. unwrap_or o 0) m ∙ max-reduce s
