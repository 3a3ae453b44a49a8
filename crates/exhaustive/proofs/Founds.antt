-- The lists of the terms asked, as the walk found them: they were walked, and they are the query's lists. Assumes nothing.
use Prim.Native.Nat.{ℕ, zero, suc, ◌+◌, ◌-◌, ◌*◌, ◌^◌, ◌<◌}
use mathlib.Core.Path.{◌≡◌, refl, sym, ap, ◌∙◌}
use mathlib.Core.Bool.{Bool, false}
use mathlib.Core.List.{List, [], ◌∷◌, ◌++◌, map}
use native.Mathlib.Omega.{arith}
use lib.ListN.{length, drop, replicate}
use lib.Dec.{eqb, leb}
use borrow.Author.Tests.{eqb-true, eqb-false}
use Rattle.model.specs.Limits.{max_shelf}
use Rattle.model.specs.Outcome.{Outcome, refused, done, and_then}
use Rattle.model.specs.Runs.{All, filter}
use Rattle.model.proofs.Lists.{split}
use Rattle.wire.specs.Field.{field_len}
use Rattle.block.specs.Summary.{is_sum, sum_of, right_sum}
use Rattle.block.specs.Body.{is_strip}
use Rattle.shelf.specs.Walk as shelf
use Rattle.shelf.specs.Walk.{one_sum, sums, bodies, blocks_of, blocks_at, head_count, right_head, listed, list, onto, lists, walk}
use Rattle.shelf.specs.Blocks.{blocks_left, Rests}
use Rattle.shelf.proofs.Walks.{any_strip, any_greatest}
use Rattle.shelf.proofs.Readings.{stands_rests, none-rests}
use Rattle.lookup.specs.Gather.{place_at, term_blocks}
use Rattle.lookup.proofs.Stands.{walk-size, term-has, term-blocks, term-ready}
use Rattle.query.specs.Query.{Asked, terms_of as asked_terms, weights_of}
use Rattle.rank.specs.Match.{some, any_list, holds, score_of, held_from, matches, hit_at, hits_of}
use Rattle.rank.specs.Rank.{Hit}
use Rattle.prune.specs.Cut.{Listing}
use Rattle.prune.specs.Prune.{terms_of, fault_all, exhaustive}
use Rattle.exhaustive.specs.Lists.{listings_of}
use Rattle.exhaustive.specs.Merge.{Chain, reading_at, Walked, AllWalked, Addressed, lists_from}

-- ---- the walk passes right summaries
sums-chain : (n prev a b e : ℕ) (m s : List ℕ) → sums n prev a m ≡ done e → Chain prev (blocks_of n a m b s)
unfolding sums one_sum blocks_of
sums-chain zero prev a b e m s q = tt
sums-chain (suc n) prev a b e m s q =
    let k = 3 + field_len s in
    split (is_sum m)
    (λ i. split (right_sum prev (sum_of false m))
    (λ r. (any_strip (is_strip s) prev m ∙ r, rw (any_greatest (is_strip s) m) (sums-chain n (sum_of false m).greatest (a + 12) (b + k) e (drop 12 m) (drop k s) (rw (i, r) at q))))
    (λ r. let g : refused 7 a ≡ done e = rw (i, r) at q in let z : ◌≡◌ {A = ℕ} 0 1 = cc in absurd (omega arith)))
    (λ i. let g : refused 6 a ≡ done e = rw i at q in let z : ◌≡◌ {A = ℕ} 0 1 = cc in absurd (omega arith))

abbrev Chained : Outcome shelf.Listing → Type 0
Chained (refused n o) = Unit {0}
Chained (done l) = Chain 0 l.blocks

list-chain : (floor at : ℕ) (s : List ℕ) → Chained (list floor at s)
unfolding list
list-chain floor at s =
    split (right_head floor s)
    (λ r. rw r (on_sums (sums (head_count s) 0 (at + 8) (drop 8 s)) refl))
    (λ r. rw r tt)
  where
    on_bodies : (b : ℕ) → sums (head_count s) 0 (at + 8) (drop 8 s) ≡ done b → (r : Outcome ℕ) → Chained (and_then r (λ next. done (listed at next s)))
    on_bodies b e (refused n o) = tt
    on_bodies b e (done next) = sums-chain (head_count s) 0 (at + 8) (at + 8 + 12 * head_count s) b (drop 8 s) (drop (8 + 12 * head_count s) s) e

    on_sums : (r : Outcome ℕ) → sums (head_count s) 0 (at + 8) (drop 8 s) ≡ r →
        Chained (and_then r (λ b. and_then (bodies (head_count s) b (drop (8 + 12 * head_count s) s)) (λ next. done (listed at next s))))
    on_sums (refused n o) e = tt
    on_sums (done b) e = on_bodies b e (bodies (head_count s) b (drop (8 + 12 * head_count s) s))

abbrev AllChained : Outcome (List shelf.Listing) → Type 0
AllChained (refused n o) = Unit {0}
AllChained (done ls) = All (λ (l : shelf.Listing). Chain 0 l.blocks) ls

chained_cons : (l : shelf.Listing) (r : Outcome (List shelf.Listing)) → Chain 0 l.blocks → AllChained r → AllChained (onto l r)
chained_cons l (refused n o) c a = tt
chained_cons l (done ls) c a = (c, a)

lists-chain : (n floor at : ℕ) (s : List ℕ) → AllChained (lists n floor at s)
unfolding lists
lists-chain zero floor at [] = tt
lists-chain zero floor at (b ∷ s) = tt
lists-chain (suc n) floor at [] = tt
lists-chain (suc n) floor at (b ∷ s) = go (list floor at (b ∷ s)) (list-chain floor at (b ∷ s)) (λ t next. lists-chain n t next (drop (next - at) (b ∷ s)))
  where
    go : (r : Outcome shelf.Listing) → Chained r → ((t next : ℕ) → AllChained (lists n t next (drop (next - at) (b ∷ s)))) →
        AllChained (and_then r (λ l. onto l (lists n (l.place.term + 1) l.place.next (drop (l.place.next - at) (b ∷ s)))))
    go (refused k o) c ih = tt
    go (done l) c ih = chained_cons l (lists n (l.place.term + 1) l.place.next (drop (l.place.next - at) (b ∷ s))) c (ih (l.place.term + 1) l.place.next)

walk-chain : (s : List ℕ) → AllChained (walk s)
unfolding walk
walk-chain s = split (leb (length s) max_shelf) (λ e. rw e (lists-chain 1024 0 0 s)) (λ e. rw e tt)

-- ---- a term's list
module _ (s : List ℕ) (ls : List shelf.Listing) (e : walk s ≡ done ls) (t : ℕ) where
  term-chain : Chain 0 (term_blocks t ls)
  term-chain = term-has (λ (l : shelf.Listing). Chain 0 l.blocks) tt t ls (rw e at (walk-chain s))

  term-left : blocks_left s (reading_at (place_at t ls).at (place_at t ls).count) ≡ term_blocks t ls
  unfolding blocks_left blocks_at blocks_of
  term-left =
      split (eqb (place_at t ls).count 0)
      (λ z. let k : (place_at t ls).count ≡ 0 = eqb-true _ _ z in rw z (sym (term-blocks s ls e t ∙ rw k)))
      (λ z. rw z (sym (term-blocks s ls e t)))

  term-rests : Rests s (reading_at (place_at t ls).at (place_at t ls).count)
  term-rests =
      split (eqb (place_at t ls).count 0)
      (λ z. rw z (none-rests s 0 0 (omega arith)))
      (λ z. let h = term-ready s ls e t (omega (arith, eqb-false (place_at t ls).count 0 z)) in rw z (stands_rests s (place_at t ls).at (place_at t ls).count (place_at t ls).next h))

  term-walked : Walked s (place_at t ls).at (place_at t ls).count
  term-walked = (term-rests, rw term-left term-chain)

  term-addressed : 0 < (place_at t ls).count → (place_at t ls).at + 8 + 12 * (place_at t ls).count < 2 ^ 64
  term-addressed l = omega (arith, (term-ready s ls e t l).room, walk-size s ls e)

-- ---- past the terms asked
none_left : (s : List ℕ) → blocks_left s (reading_at 0 0) ≡ []
unfolding blocks_left blocks_of
none_left s = refl

none-walked : (s : List ℕ) → Walked s 0 0
none-walked s = (none-rests s 0 0 (omega arith), rw (none_left s) tt)

abbrev pub zeros : ℕ → List ℕ
zeros m = replicate m 0

abbrev pub blanks : ℕ → List Listing
blanks m = replicate m (record { weight = 0; blocks = [] })

zeros-walked : (s : List ℕ) (m : ℕ) → AllWalked s (zeros m) (zeros m)
zeros-walked s zero = tt
zeros-walked s (suc m) = (none-walked s, zeros-walked s m)

zeros-addressed : (m : ℕ) → Addressed (zeros m) (zeros m)
zeros-addressed zero = tt
zeros-addressed (suc m) = (λ l. absurd (omega arith), zeros-addressed m)

zeros-lists : (s : List ℕ) (m : ℕ) → lists_from s (zeros m) (zeros m) (zeros m) ≡ blanks m
zeros-lists s zero = refl
zeros-lists s (suc m) = rw (none_left s, zeros-lists s m)

-- ---- all of them
abbrev pub ats_of : List shelf.Listing → ℕ → List ℕ → List ℕ
ats_of ls m ts = map (λ (t : ℕ). (place_at t ls).at) ts ++ zeros m

abbrev pub counts_of : List shelf.Listing → ℕ → List ℕ → List ℕ
counts_of ls m ts = map (λ (t : ℕ). (place_at t ls).count) ts ++ zeros m

module _ (s : List ℕ) (ls : List shelf.Listing) (e : walk s ≡ done ls) (m : ℕ) where
  pub all-walked : (ts : List ℕ) → AllWalked s (ats_of ls m ts) (counts_of ls m ts)
  all-walked [] = zeros-walked s m
  all-walked (t ∷ ts) = (term-walked s ls e t, all-walked ts)

  pub all-addressed : (ts : List ℕ) → Addressed (ats_of ls m ts) (counts_of ls m ts)
  all-addressed [] = zeros-addressed m
  all-addressed (t ∷ ts) = (term-addressed s ls e t, all-addressed ts)

  pub all-lists : (xs : List Asked) → lists_from s (weights_of xs ++ zeros m) (ats_of ls m (asked_terms xs)) (counts_of ls m (asked_terms xs)) ≡ listings_of xs ls ++ blanks m
  all-lists [] = zeros-lists s m
  all-lists (x ∷ xs) = rw (term-left s ls e x.term, all-lists xs)

-- ---- lists without blocks change nothing
blank-faults : (m : ℕ) (ls : List Listing) → fault_all (ls ++ blanks m) ≡ fault_all ls
blank-faults zero [] = refl
blank-faults (suc m) [] = blank-faults m []
blank-faults m (l ∷ ls) = rw (blank-faults m ls)

blank-held : (m : ℕ) (ls : List Listing) (xs : List ℕ) → held_from xs (terms_of (ls ++ blanks m)) ≡ held_from xs (terms_of ls)
blank-held zero [] xs = refl
blank-held (suc m) [] xs = blank-held m [] xs
blank-held m (l ∷ ls) xs = blank-held m ls _

blank-some : (d m : ℕ) (ls : List Listing) → some (holds (terms_of (ls ++ blanks m)) d) ≡ some (holds (terms_of ls) d)
blank-some d zero [] = refl
blank-some d (suc m) [] = blank-some d m []
blank-some d m (l ∷ ls) = rw (blank-some d m ls)

blank-score : (d m : ℕ) (ls : List Listing) → score_of (terms_of (ls ++ blanks m)) d ≡ score_of (terms_of ls) d
blank-score d zero [] = refl
blank-score d (suc m) [] = omega (arith, blank-score d m [])
blank-score d m (l ∷ ls) = rw (blank-score d m ls)

filter_same : (p q : ℕ → Bool) (xs : List ℕ) → ((d : ℕ) → p d ≡ q d) → filter p xs ≡ filter q xs
filter_same p q [] f = refl
filter_same p q (x ∷ xs) f = rw (f x, filter_same p q xs f)

map_same : (f g : ℕ → Hit) (xs : List ℕ) → ((d : ℕ) → f d ≡ g d) → map f xs ≡ map g xs
map_same f g [] h = refl
map_same f g (x ∷ xs) h = cc (h x, map_same f g xs h)

blank-hits : (m : ℕ) (ls : List Listing) → hits_of any_list (terms_of (ls ++ blanks m)) ≡ hits_of any_list (terms_of ls)
blank-hits m ls =
    let A = terms_of (ls ++ blanks m) in
    let B = terms_of ls in
    map_same (hit_at A) (hit_at B) (matches any_list A) (λ d. rw (blank-score d m ls))
    ∙ ap (map (hit_at B))
    (filter_same (λ d. any_list (holds A d) d) (λ d. any_list (holds B d) d) (held_from [] A) (λ d. blank-some d m ls) ∙ ap (filter (λ d. any_list (holds B d) d)) (blank-held m ls []))

pub blank-ranked : (k m : ℕ) (ls : List Listing) → exhaustive any_list k (ls ++ blanks m) ≡ exhaustive any_list k ls
blank-ranked k m ls = rw (blank-faults m ls, blank-hits m ls)
