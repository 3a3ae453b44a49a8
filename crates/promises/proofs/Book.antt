-- Demand 3, the book: "For any accepted query on it with room enough, every sheet number is in exactly one interval, and an interval is skipped
-- exactly when its ceiling is zero or k sheets with lower numbers match and the kth best of them scores at least the ceiling." On every sound shelf.
-- Assumes nothing.
use Prim.Native.Nat.{ℕ, zero, suc, ◌+◌, ◌-◌, ◌≤◌, ◌<◌}
use native.Mathlib.Omega.{arith}
use mathlib.Core.Path.{◌≡◌, refl, sym, ap, ◌∙◌}
use mathlib.Core.Bool.{Bool, true, false, false≢true, cond}
use mathlib.Core.Logic.{◌⊎◌, inl, inr, ◌↔◌}
use mathlib.Core.List.{List, [], ◌∷◌, ◌++◌, map}
use lib.ListN.{length, take, drop, get_or, length-map, get_or-append, get_or-map}
use lib.Seq.{take_at}
use Rattle.model.specs.Limits.{max_docid}
use Rattle.model.specs.Outcome.{done}
use Rattle.model.specs.Runs.{All}
use Rattle.model.proofs.Lists.{All_map}
use Rattle.shelf.specs.Walk as shelf
use Rattle.query.specs.Query.{Question}
use Rattle.query.proofs.Accepted.{accepted_in_range}
use Rattle.rank.specs.Rank.{Hit, sort, ranking}
use Rattle.rank.specs.Match.{any_list, score_of, hits_of, within}
use Rattle.prune.specs.Cut.{Block, Listing, Interval, starts, cuts, intervals, lies, how_many, sees, ceiling_at, Full, block_count}
use Rattle.prune.specs.Search.{opens}
use Rattle.prune.specs.Prune.{never, span_of, terms_of, pruned, book, chosen, count_met, Good}
use Rattle.prune.proofs.Parts.{exactly-one, firsts, at_most, same_blocks, same-ceiling, smallest, Apart, neighbours}
use Rattle.prune.proofs.Goods.{score-ceiling}
use Rattle.prune.proofs.Prunes.{mark_of, book-marks, skip_exactly, never_barring}
use Rattle.exhaustive.specs.Lists.{term_on}
use Rattle.pruned.specs.Pruned.{Answer, front, answer, searched}
use Rattle.pruned.proofs.Endings.{book-long}
use Rattle.promises.specs.Served.{lists_for, interval_count, matches_for, Asks, Room}
use Rattle.promises.specs.Book.{first, ceiling, mark, between, shown, below, SkipRule, Booked, CutBy}
use Rattle.promises.proofs.Goods.{good-lists, few-lists, few-blocks, terms-held}
use Rattle.promises.proofs.Ranking.{answers, gets_the_ranking}

-- a row that was made from an element
row_of : {A : Type 0} (f : A → ℕ) (z : A) (xs : List A) (past : List ℕ) (i : ℕ) → i < length xs → get_or (map f xs ++ past) i 0 ≡ f (get_or xs i z)
row_of f z [] past i l = absurd (omega arith)
row_of f z (x ∷ xs) past zero l = refl
row_of f z (x ∷ xs) past (suc i) l = row_of f z xs past i (omega arith)

good_full : (n : ℕ) (bs : List Block) → Good max_docid n bs → All (λ (b : Block). b.least ≤ b.greatest) bs
good_full n [] g = tt
good_full n (b ∷ bs) g = (g.0.order, good_full b.greatest bs g.1)

apart_at : (ls : List Listing) (lo : ℕ) (cs : List ℕ) (i : ℕ) → Apart ls lo cs → i < length cs → sees ls (get_or (lo ∷ cs) i 0) ≡ sees ls (get_or cs i 0) → ⊥
apart_at ls lo [] i w l = absurd (omega arith)
apart_at ls lo (c ∷ cs) zero w l = w.0
apart_at ls lo (c ∷ cs) (suc i) w l = apart_at ls c cs i w.1 (omega arith)

zero_one : (t : Bool) → (◌≡◌ {A = ℕ} (cond t 1 0) 0) ⊎ (◌≡◌ {A = ℕ} (cond t 1 0) 1)
zero_one true = inr refl
zero_one false = inl refl

-- in the base there is no other reason to skip
not-barred : {C : Type 0} → (false ≡ true) ⊎ C → C
not-barred (inl e) = absurd (false≢true e)
not-barred (inr c) = c

-- what a search that is done counts
counts_of_lem : (k : ℕ) (L : List Listing) (fs cs ms : List ℕ) (hs : List Hit) → pruned any_list never max_docid k L ≡ done hs
    → ((answer (done (record { k = k; lists = L })) fs cs ms).opened
    ≡ count_met (chosen (take (length (starts max_docid L)) (front (book any_list never max_docid k L) ms)) (take (length (starts max_docid L)) (front (starts max_docid L) fs))) L)
    × ((answer (done (record { k = k; lists = L })) fs cs ms).blocks ≡ block_count L)
counts_of_lem k L fs cs ms hs e =
    rw (
      e,
      take_at (book any_list never max_docid k L) (drop (length (book any_list never max_docid k L)) ms) (length (starts max_docid L)) (book-long k L),
      take_at (starts max_docid L) (drop (length (starts max_docid L)) fs) (length (starts max_docid L)) refl,
    )
    (refl, refl)

nowhere : Interval
nowhere = record { first = 0; last = 0 }

module _ (q s : List ℕ) (x : Question) (ls : List shelf.Listing) (a : Asks q s x ls) where
  full_lists : Full (lists_for x ls)
  full_lists = All_map (lists_for x ls) (λ (l : Listing) g. good_full 0 l.blocks g.good) (good-lists q s x ls a)

  -- "There are at most 1,025 intervals.", so runs of that length are always room enough
  few-intervals : interval_count x ls ≤ 1025
  few-intervals =
      omega (arith, at_most max_docid (lists_for x ls) (few-lists q s x ls a) (few-blocks q s x ls a), ap length (firsts max_docid (lists_for x ls)), length-map (intervals max_docid (lists_for x ls)) (λ (v : Interval). v.first))

  pub room_enough : (rows : ℕ) (fs cs ms : List ℕ) → x.k ≤ rows → 1025 ≤ length fs → 1025 ≤ length cs → 1025 ≤ length ms → Room x ls rows fs cs ms
  room_enough rows fs cs ms h f c m = record { hits = h; firsts = omega (arith, few-intervals); ceilings = omega (arith, few-intervals); marks = omega (arith, few-intervals) }

  module _ (rows : ℕ) (fs cs ms : List ℕ) (r : Room x ls rows fs cs ms) where
    abbrev given : Answer
    given = searched q s rows fs cs ms

    counted : given.intervals ≡ interval_count x ls
    counted = ap (λ (w : Answer). w.intervals) (answers q s x ls a rows fs cs ms r)

    as_many : length (intervals max_docid (lists_for x ls)) ≡ interval_count x ls
    as_many = sym (length-map (intervals max_docid (lists_for x ls)) (λ (v : Interval). v.first)) ∙ ap length (firsts max_docid (lists_for x ls))

    row-start : (i : ℕ) → i < given.intervals → first given i ≡ get_or (starts max_docid (lists_for x ls)) i 0
    row-start i l =
        ap (λ (w : Answer). first w i) (answers q s x ls a rows fs cs ms r)
        ∙ get_or-append (starts max_docid (lists_for x ls)) (drop (interval_count x ls) fs) 0 i (omega (arith, counted))

    -- ---- the intervals

    -- the book shows the intervals into which the query's blocks cut the sheet numbers
    shows_the_intervals : shown given ≡ intervals max_docid (lists_for x ls)
    shows_the_intervals =
        rw (answers q s x ls a rows fs cs ms r)
        (ap between (take_at (starts max_docid (lists_for x ls)) (drop (interval_count x ls) fs) (interval_count x ls) refl))

    -- "every sheet number is in exactly one interval"
    in_exactly-one : (d : ℕ) → 1 ≤ d → d ≤ max_docid → how_many d (shown given) ≡ 1
    in_exactly-one d l m = rw shows_the_intervals (exactly-one max_docid (lists_for x ls) d l m)

    -- "This is the smallest partition in which each docid of an interval meets the same block or gap in every list."
    meets_the_same : All (λ (v : Interval). (d : ℕ) → lies v d ≡ true → sees (lists_for x ls) d ≡ sees (lists_for x ls) v.first) (shown given)
    meets_the_same = rw shows_the_intervals (same_blocks max_docid (lists_for x ls))

    smallest-partition : (d e : ℕ) → d ≤ e → e ≤ max_docid → ((z : ℕ) → d ≤ z → z ≤ e → sees (lists_for x ls) z ≡ sees (lists_for x ls) d)
        → All (λ (v : Interval). lies v d ≡ true → lies v e ≡ true) (shown given)
    smallest-partition d e l m same = rw shows_the_intervals (smallest max_docid (lists_for x ls) d e full_lists l m same)

    -- so neighbours differ: some block is met in one and not in the other
    neighbours_differ : (i : ℕ) → i + 1 < given.intervals → sees (lists_for x ls) (first given i) ≡ sees (lists_for x ls) (first given (suc i)) → ⊥
    neighbours_differ i l e =
        apart_at (lists_for x ls) 1 (cuts max_docid (lists_for x ls)) i (neighbours max_docid (lists_for x ls) full_lists) (omega (arith, counted))
        (ap (sees (lists_for x ls)) (sym (row-start i (omega arith))) ∙ e ∙ ap (sees (lists_for x ls)) (row-start (suc i) (omega arith)))

    -- no score is above the ceiling of its interval
    under_the_ceiling : All (λ (v : Interval). (d : ℕ) → lies v d ≡ true → score_of (map (term_on ls) x.terms) d ≤ ceiling_at (lists_for x ls) v.first) (shown given)
    under_the_ceiling =
        rw shows_the_intervals
        (All_map (intervals max_docid (lists_for x ls))
        (λ (v : Interval) same d i. omega (arith, score-ceiling max_docid d (lists_for x ls) (good-lists q s x ls a), same d i, ap (λ t. score_of t d) (terms-held q s x ls a)))
        (same-ceiling max_docid (lists_for x ls)))

    -- ---- the rows

    -- row i is of interval i
    abbrev the : ℕ → Interval
    the i = get_or (intervals max_docid (lists_for x ls)) i nowhere

    row_first : (i : ℕ) → i < given.intervals → first given i ≡ (the i).first
    unfolding nowhere
    row_first i l =
        row-start i l
        ∙ ap (λ (ds : List ℕ). get_or ds i 0) (sym (firsts max_docid (lists_for x ls)))
        ∙ get_or-map (λ (v : Interval). v.first) (intervals max_docid (lists_for x ls)) i nowhere

    -- "The ceiling is the sum of weight times greatest score over the blocks met."
    row-ceiling : (i : ℕ) → i < given.intervals → ceiling given i ≡ ceiling_at (lists_for x ls) (first given i)
    row-ceiling i l =
        ap (λ (w : Answer). ceiling w i) (answers q s x ls a rows fs cs ms r)
        ∙ row_of (ceiling_at (lists_for x ls)) 0 (starts max_docid (lists_for x ls)) (drop (length (map (ceiling_at (lists_for x ls)) (starts max_docid (lists_for x ls)))) cs) i (omega (arith, counted))
        ∙ ap (ceiling_at (lists_for x ls)) (sym (row-start i l))

    abbrev marking : Interval → ℕ
    marking v = mark_of any_list never max_docid (lists_for x ls) (good-lists q s x ls a) (never_barring any_list max_docid (lists_for x ls)) x.k v

    row-mark : (i : ℕ) → i < given.intervals → mark given i ≡ marking (the i)
    row-mark i l =
        ap (λ (w : Answer). mark w i) (answers q s x ls a rows fs cs ms r)
        ∙ ap (λ (row : List ℕ). get_or (row ++ drop (length row) ms) i 0)
        (book-marks any_list never max_docid (lists_for x ls) (good-lists q s x ls a) (never_barring any_list max_docid (lists_for x ls)) x.k (accepted_in_range q x a.query-bytes a.faultless).k_low)
        ∙ row_of marking nowhere (intervals max_docid (lists_for x ls)) (drop (length (map marking (intervals max_docid (lists_for x ls)))) ms) i (omega (arith, counted, as_many))

    -- "mark (0 skipped, 1 opened ..)": on a sound shelf there is no other
    skipped_or_opened : (i : ℕ) → i < given.intervals → (mark given i ≡ 0) ⊎ (mark given i ≡ 1)
    skipped_or_opened i l = rw (row-mark i l) (zero_one (opens x.k (sort (within 1 ((the i).first - 1) (hits_of any_list (terms_of (lists_for x ls))))) (span_of any_list never (lists_for x ls) (the i))))

    -- "an interval is skipped exactly when its ceiling is zero or k sheets with lower numbers match and the kth best of them scores at least the ceiling"
    skipped-exactly : (i : ℕ) → i < given.intervals → (mark given i ≡ 0) ↔ SkipRule x.k (ceiling given i) (below (first given i) (matches_for x ls))
    skipped-exactly i l =
        let c : ceiling given i ≡ ceiling_at (lists_for x ls) (the i).first = row-ceiling i l ∙ ap (ceiling_at (lists_for x ls)) (row_first i l) in
        let b : below (first given i) (matches_for x ls) ≡ within 1 ((the i).first - 1) (hits_of any_list (terms_of (lists_for x ls))) = rw (row_first i l, terms-held q s x ls a) in
        let w = skip_exactly any_list never max_docid (lists_for x ls) (good-lists q s x ls a) (never_barring any_list max_docid (lists_for x ls)) x.k (the i) in
        rw (row-mark i l, c, b) (λ e. not-barred (w.0 e), λ h. w.1 (inr h))

    -- ---- the counts

    -- "the number of blocks met by an opened interval (each block once), the number of blocks in the query's lists"
    counts : (given.opened ≡ count_met (chosen (take given.intervals given.marks) (take given.intervals given.firsts)) (lists_for x ls)) × (given.blocks ≡ block_count (lists_for x ls))
    counts = rw (answers q s x ls a rows fs cs ms r) (counts_of_lem x.k (lists_for x ls) fs cs ms (ranking x.k (matches_for x ls)) found)
      where
        found : pruned any_list never max_docid x.k (lists_for x ls) ≡ done (ranking x.k (matches_for x ls))
        found = ap (λ (w : Answer). w.outcome) (sym (answers q s x ls a rows fs cs ms r)) ∙ gets_the_ranking q s x ls a rows fs cs ms r

    -- ---- all of it

    pub booked : Booked x.k (matches_for x ls) given
    booked = record { partition = in_exactly-one; skipped = skipped-exactly; opened = skipped_or_opened }

    pub cut_by : CutBy (lists_for x ls) (score_of (map (term_on ls) x.terms)) given
    cut_by = record {
      few = omega (arith, counted, few-intervals);
      same = meets_the_same;
      smallest = smallest-partition;
      neighbours = neighbours_differ;
      ceilings = row-ceiling;
      under = under_the_ceiling;
      opened = counts.0;
      blocks = counts.1;
    }
