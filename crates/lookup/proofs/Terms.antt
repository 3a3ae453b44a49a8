-- What `find_terms` found in a shelf whose walk is not refused: it may be gathered, and its lists are those of the query's terms. Assumes nothing.
use Prim.Native.Nat.{ℕ, zero, suc, ◌-◌, ◌≤◌, ◌<◌}
use native.Mathlib.Omega.{arith}
use mathlib.Core.Path.{◌≡◌, refl, sym, ap₂, ◌∙◌}
use mathlib.Core.List.{List, [], ◌∷◌, ◌++◌, map, map-append}
use lib.ListN.{length, get_or, take, replicate}
use lib.Seq.{length-take-le, get_or-take, take-suc}
use Rattle.model.specs.Limits.{max_terms}
use Rattle.model.specs.Outcome.{done}
use Rattle.shelf.specs.Walk.{Listing, blocks_at, walk}
use Rattle.lookup.specs.Gather.{place_at, term_blocks, each, Located}
use Rattle.lookup.specs.Table.{found_lists, Gatherable}
use Rattle.shelf.specs.declared.walk.Place.{Place}
use Rattle.lookup.specs.declared.gather.Found.{Found}
use Rattle.lookup.proofs.Stands.{walk-size, term-blocks, term-ready}

-- ---- what was found, term by term

map_at : (g : ℕ → ℕ) (xs zs : List ℕ) (i : ℕ) → i < length xs → get_or (map g xs ++ zs) i 0 ≡ g (get_or xs i 0)
map_at g [] zs i h = absurd (omega arith)
map_at g (x ∷ xs) zs zero h = refl
map_at g (x ∷ xs) zs (suc i) h = map_at g xs zs i (omega arith)

each_at : (f : Place → ℕ) (terms : List ℕ) (n : ℕ) (ls : List Listing) (i : ℕ) → n ≤ length terms → i < n → get_or (each f terms n ls) i 0 ≡ f (place_at (get_or terms i 0) ls)
each_at f terms n ls i fits h =
    map_at (λ (t : ℕ). f (place_at t ls)) (take n terms) (replicate (max_terms - n) 0) i (omega (arith, length-take-le n terms fits))
    ∙ rw (get_or-take n terms i 0 h)

module _ (s terms : List ℕ) (n : ℕ) (r : Found) (ls : List Listing) (e : walk s ≡ done ls) (f : Located terms n ls r) (few : n ≤ max_terms) (fits : n ≤ length terms) where
  pub found_at : (i : ℕ) → i < n → get_or r.ats i 0 ≡ (place_at (get_or terms i 0) ls).at
  found_at i h = rw f.ats (each_at (λ (p : Place). p.at) terms n ls i fits h)

  pub found-count : (i : ℕ) → i < n → get_or r.counts i 0 ≡ (place_at (get_or terms i 0) ls).count
  found-count i h = rw f.counts (each_at (λ (p : Place). p.count) terms n ls i fits h)

  pub found_gatherable : Gatherable s r.ats r.counts n
  found_gatherable = record {
    terms = few;
    small = walk-size s ls e;
    ready = λ i h some.
        let p = place_at (get_or terms i 0) ls in
        let k = term-ready s ls e (get_or terms i 0) (omega (arith, found-count i h)) in
        rw (found_at i h, found-count i h) (p.next, k);
  }

  block_at : (i : ℕ) → i < n → blocks_at s (get_or r.ats i 0) (get_or r.counts i 0) ≡ term_blocks (get_or terms i 0) ls
  block_at i h = ap₂ (blocks_at s) (found_at i h) (found-count i h) ∙ sym (term-blocks s ls e (get_or terms i 0))

  lists_to : (k : ℕ) → k ≤ n → found_lists s r.ats r.counts k ≡ map (λ (t : ℕ). term_blocks t ls) (take k terms)
  lists_to zero h = refl
  lists_to (suc k) h =
      let i : k < length terms = omega arith in
      let j : k < n = omega arith in
      rw (lists_to k (omega arith), block_at k j, take-suc terms k 0 i) (sym (map-append (λ (t : ℕ). term_blocks t ls) (take k terms) (get_or terms k 0 ∷ [])))

  pub found-lists : found_lists s r.ats r.counts n ≡ map (λ (t : ℕ). term_blocks t ls) (take n terms)
  found-lists = lists_to n (omega arith)
