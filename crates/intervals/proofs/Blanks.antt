-- "A term not on the shelf is a list without blocks.": such a list changes no cut, no ceiling, no hit, no mark and no count, so the search may hold eight
-- lists whatever the query asks. Assumes nothing.
use Prim.Native.Nat.{ℕ}
use mathlib.Core.Path.{◌≡◌, refl, ap, ◌∙◌}
use mathlib.Core.Bool.{Bool}
use mathlib.Core.List.{List, [], ◌∷◌, ◌++◌, map}
use native.Mathlib.Omega.{arith}
use Rattle.model.specs.Post.{docs}
use Rattle.model.specs.Runs.{filter, adds}
use Rattle.rank.specs.Rank.{Hit}
use Rattle.rank.specs.Match.{Term, score_of, holds, some, any_list, held_from, hit_at, hits_of, within}
use Rattle.prune.specs.Cut.{Listing, Interval, edges, all_edges, add_cuts, starts, intervals_from, intervals, ceiling_at, block_count}
use Rattle.prune.specs.Search.{Span, search, marks}
use Rattle.prune.specs.Prune.{never, earlier, fault_of, body_at, fault_at, terms_at, span_of, spans, pruned, book, chosen, count_met, blocks_opened}

-- ---- functions that agree

map_same : {A B : Type 0} (f g : A → B) (xs : List A) → ((x : A) → f x ≡ g x) → map f xs ≡ map g xs
map_same f g [] h = refl
map_same f g (x ∷ xs) h = cc (h x, map_same f g xs h)

filter_same : (p q : ℕ → Bool) (xs : List ℕ) → ((x : ℕ) → p x ≡ q x) → filter p xs ≡ filter q xs
filter_same p q [] h = refl
filter_same p q (x ∷ xs) h = rw (h x, filter_same p q xs h)

-- ---- a term without postings

module _ (w : ℕ) where
  abbrev empty : Term
  empty = record { weight = w; posts = [] }

  held-blank : (xs : List ℕ) (ts : List Term) → held_from xs (ts ++ (empty ∷ [])) ≡ held_from xs ts
  held-blank xs [] = refl
  held-blank xs (t ∷ ts) = held-blank (adds xs (docs t.posts)) ts

  some-blank : (ts : List Term) (d : ℕ) → some (holds (ts ++ (empty ∷ [])) d) ≡ some (holds ts d)
  some-blank [] d = refl
  some-blank (t ∷ ts) d = rw (some-blank ts d)

  score-blank : (ts : List Term) (d : ℕ) → score_of (ts ++ (empty ∷ [])) d ≡ score_of ts d
  score-blank [] d = omega arith
  score-blank (t ∷ ts) d = omega (arith, score-blank ts d)

  hits-blank : (ts : List Term) → hits_of any_list (ts ++ (empty ∷ [])) ≡ hits_of any_list ts
  hits-blank ts =
      let us = ts ++ (empty ∷ []) in
      let same : filter (λ d. some (holds us d)) (held_from [] us) ≡ filter (λ d. some (holds ts d)) (held_from [] ts) =
      rw (held-blank [] ts) (filter_same (λ d. some (holds us d)) (λ d. some (holds ts d)) (held_from [] ts) (some-blank ts)) in
      ap (map (hit_at us)) same
      ∙ map_same (hit_at us) (hit_at ts) (filter (λ d. some (holds ts d)) (held_from [] ts)) (λ d. rw (score-blank ts d))

  -- ---- a list without blocks
  abbrev pub blank : Listing
  blank = record { weight = w; blocks = [] }

  edges-blank : (ls : List Listing) → all_edges (ls ++ (blank ∷ [])) ≡ all_edges ls
  edges-blank [] = refl
  edges-blank (l ∷ ls) = ap {B = List ℕ} (λ t. edges l.blocks ++ t) (edges-blank ls)

  pub starts-blank : (lim : ℕ) (ls : List Listing) → starts lim (ls ++ (blank ∷ [])) ≡ starts lim ls
  starts-blank lim ls = ap {B = List ℕ} (λ t. 1 ∷ add_cuts lim [] t) (edges-blank ls)

  pub ceiling-blank : (ls : List Listing) (d : ℕ) → ceiling_at (ls ++ (blank ∷ [])) d ≡ ceiling_at ls d
  ceiling-blank [] d = omega arith
  ceiling-blank (l ∷ ls) d = omega (arith, ceiling-blank ls d)

  fault-blank : (ls : List Listing) (d : ℕ) → fault_at (ls ++ (blank ∷ [])) d ≡ fault_at ls d
  fault-blank [] d = refl
  fault-blank (l ∷ ls) d = ap (earlier (fault_of (body_at l.blocks d))) (fault-blank ls d)

  terms-blank : (ls : List Listing) (d : ℕ) → terms_at (ls ++ (blank ∷ [])) d ≡ terms_at ls d ++ (empty ∷ [])
  terms-blank [] d = refl
  terms-blank (l ∷ ls) d = cc (terms-blank ls d)

  span_blank : (ls : List Listing) (v : Interval) → span_of any_list never (ls ++ (blank ∷ [])) v ≡ span_of any_list never ls v
  span_blank ls v =
      cc (ceiling-blank ls v.first, fault-blank ls v.first, ap {B = List Hit} (λ t. within v.first v.last (hits_of any_list t)) (terms-blank ls v.first), ap (within v.first v.last) (hits-blank (terms_at ls v.first)))

  spans-blank : (lim : ℕ) (ls : List Listing) → spans any_list never lim (ls ++ (blank ∷ [])) ≡ spans any_list never lim ls
  spans-blank lim ls =
      ap {B = List Span} (λ t. map (span_of any_list never (ls ++ (blank ∷ []))) (intervals_from lim 1 (add_cuts lim [] t))) (edges-blank ls)
      ∙ map_same (span_of any_list never (ls ++ (blank ∷ []))) (span_of any_list never ls) (intervals lim ls) (span_blank ls)

  pub pruned-blank : (lim k : ℕ) (ls : List Listing) → pruned any_list never lim k (ls ++ (blank ∷ [])) ≡ pruned any_list never lim k ls
  pruned-blank lim k ls = ap (search k) (spans-blank lim ls)

  pub book-blank : (lim k : ℕ) (ls : List Listing) → book any_list never lim k (ls ++ (blank ∷ [])) ≡ book any_list never lim k ls
  book-blank lim k ls = ap (marks k) (spans-blank lim ls)

  pub blocks-blank : (ls : List Listing) → block_count (ls ++ (blank ∷ [])) ≡ block_count ls
  blocks-blank [] = omega arith
  blocks-blank (l ∷ ls) = omega (arith, blocks-blank ls)

  count-blank : (los : List ℕ) (ls : List Listing) → count_met los (ls ++ (blank ∷ [])) ≡ count_met los ls
  count-blank los [] = omega arith
  count-blank los (l ∷ ls) = omega (arith, count-blank los ls)

  pub opened-blank : (lim k : ℕ) (ls : List Listing) → blocks_opened any_list never lim k (ls ++ (blank ∷ [])) ≡ blocks_opened any_list never lim k ls
  opened-blank lim k ls =
      count-blank (chosen (book any_list never lim k (ls ++ (blank ∷ []))) (starts lim (ls ++ (blank ∷ [])))) ls
      ∙ ap {B = ℕ} (λ b. count_met (chosen b (starts lim (ls ++ (blank ∷ [])))) ls) (book-blank lim k ls)
      ∙ ap {B = ℕ} (λ f. count_met (chosen (book any_list never lim k ls) f) ls) (starts-blank lim ls)
