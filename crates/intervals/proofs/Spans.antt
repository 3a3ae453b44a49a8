-- The intervals by their numbers, the marks passed over, and the blocks that are met and counted. Assumes nothing.
use Prim.Native.Nat.{ℕ, zero, suc, ◌+◌, ◌-◌, ◌≤◌, ◌<◌}
use mathlib.Core.Path.{◌≡◌, refl, sym, ap, ◌∙◌}
use mathlib.Core.Bool.{true, false, cond}
use mathlib.Core.Option.{none}
use mathlib.Core.List.{List, [], ◌∷◌, ◌++◌, map, append-nil}
use native.Mathlib.Omega.{arith}
use native.Mathlib.Numerals.{add-one}
use lib.Dec.{ltb, eqb}
use lib.ListN.{length, get_or, set, take, drop, replicate, length-set, length-map}
use lib.Seq.{sets, take-suc-set, length-take-le, drop-set-lt}
use borrow.Author.Tests.{lt-ltb, le-ltb, ltb-true, ltb-false, lt-leb}
use Rattle.model.specs.Runs.{All, Asc}
use Rattle.model.proofs.Lists.{split, get_d_map}
use Rattle.rank.specs.Rank.{Hit, kth}
use Rattle.rank.specs.Match.{Term, any_list}
use Rattle.prune.specs.Cut.{Block, Listing, Interval, meets, intervals_from, intervals, ceiling_at, Rises}
use Rattle.prune.specs.Cut as cut
use Rattle.prune.specs.Search.{Span, opens}
use Rattle.prune.specs.Prune.{never, span_of, spans, body_at, terms_at, fault_at, fault_of, earlier, chosen, met_by, count_in, count_met}
use Rattle.prune.specs.Loop.{Searching}
use Rattle.prune.proofs.Loopings.{searching_skip, count_snoc, opens_one}
use Rattle.opening.specs.Table.{gap, numbered, from_of, list_in}
use Rattle.intervals.specs.Book.{opens_by}
use Rattle.opening.specs.Enter.{body_of, is_new, fault_from, new_from}
use Rattle.opening.specs.Turn.{term_met}
use Rattle.intervals.specs.Run.{last_at}
use Rattle.opening.proofs.Meets.{met, met-body, met-new}

ltb-suc : (a b : ℕ) → ltb (suc a) (suc b) ≡ ltb a b
ltb-suc a b = split (ltb a b) (λ e. lt-ltb (suc a) (suc b) (omega (arith, ltb-true a b e)) ∙ sym e) (λ e. le-ltb (suc a) (suc b) (omega (arith, ltb-false a b e)) ∙ sym e)

-- ---- the intervals by their numbers

abbrev pub interval_at : (lim : ℕ) (starts : List ℕ) (i : ℕ) → Interval
interval_at lim starts i = record { first = get_or starts i 0; last = last_at lim starts i }

interval-at : (lim lo : ℕ) (cs : List ℕ) (i : ℕ) (z : Interval) → i < suc (length cs) → get_or (intervals_from lim lo cs) i z ≡ interval_at lim (lo ∷ cs) i
interval-at lim lo [] zero z l = refl
interval-at lim lo [] (suc i) z l = absurd (omega arith)
interval-at lim lo (c ∷ cs) zero z l = rw (lt-ltb 1 (suc (suc (length cs))) (omega arith))
interval-at lim lo (c ∷ cs) (suc i) z l =
    let e : suc i + 1 ≡ suc (i + 1) = omega arith in
    interval-at lim c cs i z (omega arith) ∙ sym (rw (e, ltb-suc (i + 1) (suc (length cs))))

pub intervals-long : (lim lo : ℕ) (cs : List ℕ) → length (intervals_from lim lo cs) ≡ suc (length cs)
intervals-long lim lo [] = refl
intervals-long lim lo (c ∷ cs) = ap suc (intervals-long lim c cs)

module _ (lim : ℕ) (ls : List Listing) where
  abbrev pub no_span : Span
  no_span = span_of any_list never ls (record { first = 0; last = 0 })

  pub spans-long : length (spans any_list never lim ls) ≡ length (cut.starts lim ls)
  spans-long = length-map (intervals lim ls) (span_of any_list never ls) ∙ intervals-long lim 1 (cut.cuts lim ls)

  pub span_at : (i : ℕ) → i < length (cut.starts lim ls) → get_or (spans any_list never lim ls) i no_span ≡ span_of any_list never ls (interval_at lim (cut.starts lim ls) i)
  span_at i l =
      get_d_map (span_of any_list never ls) (record { first = 0; last = 0 }) (intervals lim ls) i
      ∙ ap (span_of any_list never ls) (interval-at lim 1 (cut.cuts lim ls) i (record { first = 0; last = 0 }) l)

pub opens_by_lem : (k : ℕ) (kept : List Hit) (ls : List Listing) (v : Interval) → opens k kept (span_of any_list never ls v) ≡ opens_by (kth k kept) (ceiling_at ls v.first)
unfolding opens
opens_by_lem k kept ls v = refl

-- ---- intervals passed over

pub searching_pass : (k : ℕ) (ss : List Span) (z : Span) (kept : List Hit) (m i : ℕ) (row : List ℕ) → Searching k ss i kept row → i + m ≤ length ss → i + m ≤ length row
    → ((j : ℕ) → i ≤ j → j < i + m → opens k kept (get_or ss j z) ≡ false) → Searching k ss (i + m) kept (sets row i (replicate m 0))
searching_pass k ss z kept zero i row w a b f = let e : i + 0 ≡ i = omega arith in rw e w
searching_pass k ss z kept (suc m) i row w a b f =
    let e : suc i + m ≡ i + suc m = omega arith in
    let one : Searching k ss (suc i) kept (set row i 0) = rw (add-one i) at (searching_skip k ss i kept row z (get_or ss i z) w (omega arith) (omega arith) refl (f i (omega arith) (omega arith))) in
    rw e at (searching_pass k ss z kept m (suc i) (set row i 0) one (omega arith) (simp length-set (omega arith)) (λ j l h. f j (omega arith) (omega arith)))

-- where the opened intervals begin: one more mark
chosen_snoc : (ms xs : List ℕ) (v : ℕ) → length ms < length xs → chosen (ms ++ (v ∷ [])) xs ≡ chosen ms xs ++ cond (eqb v 1) (get_or xs (length ms) 0 ∷ []) []
chosen_snoc [] [] v l = absurd (omega arith)
chosen_snoc [] (x ∷ xs) v l = split (eqb v 1) (λ e. rw e) (λ e. rw e)
chosen_snoc (m ∷ ms) [] v l = absurd (omega arith)
chosen_snoc (m ∷ ms) (x ∷ xs) v l =
    let r : chosen (ms ++ (v ∷ [])) xs ≡ chosen ms xs ++ cond (eqb v 1) (get_or xs (length ms) 0 ∷ []) [] = chosen_snoc ms xs v (omega arith) in
    split (eqb m 1) (λ e. rw (e, r)) (λ e. rw (e, r))

pub chosen-set : (row xs : List ℕ) (i v : ℕ) → i < length row → i < length xs → chosen (take (suc i) (set row i v)) xs ≡ chosen (take i row) xs ++ cond (eqb v 1) (get_or xs i 0 ∷ []) []
chosen-set row xs i v l h =
    let n : length (take i row) ≡ i = length-take-le i row (omega arith) in
    rw (take-suc-set row i v l) (rw n at (chosen_snoc (take i row) xs v (omega arith)))

pub chosen-pass : (xs : List ℕ) (m i : ℕ) (row : List ℕ) → i + m ≤ length row → i + m ≤ length xs → chosen (take (i + m) (sets row i (replicate m 0))) xs ≡ chosen (take i row) xs
chosen-pass xs zero i row a b = let e : i + 0 ≡ i = omega arith in rw e
chosen-pass xs (suc m) i row a b =
    let e : suc i + m ≡ i + suc m = omega arith in
    (rw e at (chosen-pass xs m (suc i) (set row i 0) (simp length-set (omega arith)) (omega arith)))
    ∙ chosen-set row xs i 0 (omega arith) (omega arith) ∙ append-nil (chosen (take i row) xs)

-- ---- the blocks met

-- the block of list t that a docid meets
abbrev pub met_of : (ℕ → Block) → (ends : List ℕ) → ℕ → ℕ → ℕ
met_of B ends t d = met B (get_or ends t 0 - from_of ends t) (from_of ends t) d

module _ (B : ℕ → Block) (ends ws : List ℕ) (most : (t : ℕ) → t < length ends → (from_of ends t ≤ get_or ends t 0) × (get_or ends t 0 ≤ gap)) where
  body-met : (t d : ℕ) → t < length ends → body_at (list_in B ends ws t).blocks d ≡ body_of B (met_of B ends t d)
  body-met t d l = met-body B (get_or ends t 0 - from_of ends t) (from_of ends t) d (omega (arith, (most t l).0, (most t l).1))

  pub terms-met : (mets : List ℕ) (d n t : ℕ) → t + n ≤ length ends → ((u : ℕ) → u < length ends → get_or mets u 0 ≡ met_of B ends u d)
      → terms_at (numbered (list_in B ends ws) n t) d ≡ numbered (term_met B ws mets) n t
  terms-met mets d zero t l h = refl
  terms-met mets d (suc n) t l h =
      let e : met_of B ends t d ≡ get_or mets t 0 = sym (h t (omega arith)) in
      rw (body-met t d (omega arith), e) (ap {B = List Term} (λ x. term_met B ws mets t ∷ x) (terms-met mets d n (suc t) (omega arith) h))

  pub fault-met : (mets : List ℕ) (d n t : ℕ) → t + n ≤ length ends → ((u : ℕ) → u < length ends → get_or mets u 0 ≡ met_of B ends u d)
      → fault_at (numbered (list_in B ends ws) n t) d ≡ fault_from B mets n t
  fault-met mets d zero t l h = refl
  fault-met mets d (suc n) t l h =
      let e : met_of B ends t d ≡ get_or mets t 0 = sym (h t (omega arith)) in
      rw (body-met t d (omega arith), e) (ap (earlier (fault_of (body_of B (get_or mets t 0)))) (fault-met mets d n (suc t) (omega arith) h))

-- ---- the blocks counted

-- a block has no docid 0, so an interval that would begin there counts for nothing
count-zero : (n : ℕ) (bs : List Block) (los : List ℕ) → Rises n bs → count_in (0 ∷ los) bs ≡ count_in los bs
count-zero n [] los r = refl
count-zero n (b ∷ bs) los r = rw (lt-leb b.least 0 (omega (arith, r.0)), count-zero b.greatest bs los r.2)

module _ (B : ℕ → Block) (ends ws : List ℕ) (most : (t : ℕ) → t < length ends → (from_of ends t ≤ get_or ends t 0) × (get_or ends t 0 ≤ gap))
    (rises : (t : ℕ) → t < length ends → Rises 0 (list_in B ends ws t).blocks) where
  pub count_phantom : (los : List ℕ) (n t : ℕ) → t + n ≤ length ends → count_met (0 ∷ los) (numbered (list_in B ends ws) n t) ≡ count_met los (numbered (list_in B ends ws) n t)
  count_phantom los zero t l = refl
  count_phantom los (suc n) t l = rw (count-zero 0 (list_in B ends ws t).blocks los (rises t (omega arith)), count_phantom los n (suc t) (omega arith))

  -- one interval more: the blocks that it meets and the one opened before it did not
  pub count-more : (los was mets : List ℕ) (q d n t : ℕ) → t + n ≤ length ends → All (λ o. o ≤ q) los → q ≤ d → ((b : Block) → meets b q ≡ true → met_by los b ≡ true)
      → ((u : ℕ) → u < length ends → get_or was u 0 ≡ met_of B ends u q) → ((u : ℕ) → u < length ends → get_or mets u 0 ≡ met_of B ends u d)
      → count_met (los ++ (d ∷ [])) (numbered (list_in B ends ws) n t) ≡ count_met los (numbered (list_in B ends ws) n t) + new_from was mets n t
  count-more los was mets q d zero t b a l f w m = refl
  count-more los was mets q d (suc n) t b a l f w m =
      let bs = (list_in B ends ws t).blocks in
      let h : t < length ends = omega arith in
      let c : count_in (los ++ (d ∷ [])) bs ≡ count_in los bs + opens_one bs q d = count_snoc 0 q d bs los (rises t h) a l f in
      let e : opens_one bs q d ≡ is_new (met_of B ends t q) (met_of B ends t d) =
      met-new B (get_or ends t 0 - from_of ends t) (from_of ends t) q d (omega (arith, (most t h).0, (most t h).1)) in
      let g : is_new (met_of B ends t q) (met_of B ends t d) ≡ is_new (get_or was t 0) (get_or mets t 0) = rw (w t h, m t h) in
      let r : count_met (los ++ (d ∷ [])) (numbered (list_in B ends ws) n (suc t)) ≡ count_met los (numbered (list_in B ends ws) n (suc t)) + new_from was mets n (suc t) =
      count-more los was mets q d n (suc t) (omega arith) a l f w m in
      omega arith

pub count-nothing : (ls : List Listing) → count_met [] ls ≡ 0
count-nothing [] = refl
count-nothing (l ∷ ls) = omega (arith, none_in l.blocks, count-nothing ls)
  where
    none_in : (bs : List Block) → count_in [] bs ≡ 0
    none_in [] = refl
    none_in (b ∷ bs) = omega (arith, none_in bs)

-- ---- rows, numbers and faults

pub asc_up : (n i r : ℕ) (xs : List ℕ) → Asc n xs → i ≤ r → r < length xs → (n < get_or xs i 0) × (get_or xs i 0 ≤ get_or xs r 0)
asc_up n i r [] a l h = absurd (omega arith)
asc_up n zero zero (x ∷ xs) a l h = (a.0, omega arith)
asc_up n zero (suc r) (x ∷ xs) a l h = (a.0, omega (arith, (asc_up x r r xs a.1 (omega arith) (omega arith)).0))
asc_up n (suc i) zero (x ∷ xs) a l h = absurd (omega arith)
asc_up n (suc i) (suc r) (x ∷ xs) a l h = let p = asc_up x i r xs a.1 (omega arith) (omega arith) in (omega (arith, p.0, a.0), p.1)

pub asc_step : (n i : ℕ) (xs : List ℕ) → Asc n xs → i + 1 < length xs → get_or xs i 0 < get_or xs (i + 1) 0
asc_step n i [] a l = absurd (omega arith)
asc_step n zero (x ∷ []) a l = absurd (omega arith)
asc_step n zero (x ∷ y ∷ xs) a l = a.1.0
asc_step n (suc i) (x ∷ xs) a l = let e : suc i + 1 ≡ suc (i + 1) = omega arith in rw e (asc_step x i xs a.1 (omega arith))

pub drop-marked : (n : ℕ) (vs row : List ℕ) (i : ℕ) → i + length vs ≤ n → drop n (sets row i vs) ≡ drop n row
drop-marked n [] row i l = refl
drop-marked n (v ∷ vs) row i l = drop-marked n vs (set row i v) (suc i) (omega arith) ∙ drop-set-lt n row i v (omega arith)

pub fault_gaps : (B : ℕ → Block) (mets : List ℕ) (n t : ℕ) → ((u : ℕ) → t ≤ u → u < t + n → get_or mets u 0 ≡ gap) → fault_from B mets n t ≡ none
fault_gaps B mets zero t h = refl
fault_gaps B mets (suc n) t h = rw (h t (omega arith) (omega arith)) (fault_gaps B mets n (suc t) (λ u a b. h u (omega arith) (omega arith)))

pub get_d_in : (f : ℕ → ℕ) (xs : List ℕ) (i : ℕ) → i < length xs → get_or (map f xs) i 0 ≡ f (get_or xs i 0)
get_d_in f [] i l = absurd (omega arith)
get_d_in f (x ∷ xs) zero l = refl
get_d_in f (x ∷ xs) (suc i) l = get_d_in f xs i (omega arith)
