-- The pruning theorem over the query's blocks: on sound lists pruned equals exhaustive, and the book is what the skip rule says. Assumes nothing.
use Prim.Native.Nat.{ℕ, ◌-◌, ◌≤◌, ◌<◌}
use mathlib.Core.Path.{◌≡◌, refl, sym, ap, ◌∙◌}
use mathlib.Core.Bool.{Bool, true, false, false≢true, cond}
use mathlib.Core.Logic.{◌↔◌}
use mathlib.Core.List.{List, [], ◌∷◌, ◌++◌, map, foldl-append, append-nil}
use native.Mathlib.Omega.{arith}
use lib.ListN.{take}
use Rattle.model.specs.Post.{Rising}
use Rattle.model.specs.Outcome.{Outcome, done}
use Rattle.model.specs.Runs.{All, has, filter, Asc}
use Rattle.model.proofs.Lists.{split, and-true, All_map, All_image}
use Rattle.model.proofs.Runs.{asc_ext, filter_asc, filter-has, All_has}
use Rattle.rank.specs.Rank.{Hit, sort, ranking, keep, keeps, best}
use Rattle.rank.specs.Match.{Rule, holds, some, score_of, matches, hit_at, hits_of, within}
use Rattle.rank.proofs.Matches.{matches_asc, matches-has, matches-all, hits-rising, hits-agree, within-hits}
use Rattle.rank.proofs.Withins.{rising-raise, within_all, within-split, within-whole, within-rising, within_range, within_empty}
use Rattle.rank.proofs.Keepers.{best-upto, ranking-more}
use Rattle.prune.specs.Cut.{Listing, Interval, cuts, intervals_from, intervals, lies, sees, ceiling_at, ceiling}
use Rattle.prune.specs.Search.{opens, step, mark, marks_from, all_hits, Fair, Sound}
use Rattle.prune.specs.Prune.{terms_of, terms_at, Bar, never, exhaustive, span_of, spans, pruned, book, Barring, GoodList}
use Rattle.prune.proofs.Cuts.{cuts_asc, cuts-most}
use Rattle.prune.proofs.Parts.{same_blocks, same-ceiling}
use Rattle.prune.proofs.Searches.{step_keeps, mark-best, opens-more, search-ranking, Skipped, shut-plain, zero_or_one, one_or_zero}
use Rattle.prune.proofs.Goods.{holds-met, score-met, score-ceiling, score-some, good-docs, met-docs, met-right, all_right_lem, terms-sees}

-- The hits of some intervals, one after the other
abbrev joined : List Hit → List Interval → List Hit
joined hs [] = []
joined hs (v ∷ vs) = within v.first v.last hs ++ joined hs vs

joined-from : (n lim lo : ℕ) (cs : List ℕ) (hs : List Hit) → Rising n hs → 1 ≤ lo → Asc lo cs → All (λ c. c ≤ lim) cs → joined hs (intervals_from lim lo cs) ≡ within lo lim hs
joined-from n lim lo [] hs r l a m = append-nil (within lo lim hs)
joined-from n lim lo (c ∷ cs) hs r l a m =
    rw (joined-from n lim c cs hs r (omega arith) a.1 m.1) (within-split n lo c lim hs (omega arith) (omega arith) (omega arith) r)

-- What is known of each interval of sound lists
record Known (m : Rule) (bar : Bar) (ls : List Listing) (hs : List Hit) (v : Interval) : Type 0 where
  hits : (span_of m bar ls v).hits ≡ within v.first v.last hs
  fair : Fair (span_of m bar ls v)

known_hits : (m : Rule) (bar : Bar) (ls : List Listing) (hs : List Hit) (vs : List Interval) → All (Known m bar ls hs) vs → all_hits (map (span_of m bar ls) vs) ≡ joined hs vs
known_hits m bar ls hs [] k = refl
known_hits m bar ls hs (v ∷ vs) k = rw (k.0.hits, known_hits m bar ls hs vs k.1)

module _ (m : Rule) (bar : Bar) (lim : ℕ) (ls : List Listing) (g : All (GoodList lim) ls) (bars : Barring m bar lim ls) where
  -- all matches, and what is known of them
  abbrev hs : List Hit
  hs = hits_of m (terms_of ls)

  rise : Rising 0 hs
  rise = hits-rising 0 (terms_of ls) (matches m (terms_of ls)) (matches_asc m (terms_of ls) (good-docs (λ d. 0 < d) lim ls (λ b p a u w. omega (arith, w.from)) g))

  ranged : All (λ h. (1 ≤ h.doc) × (h.doc ≤ lim)) hs
  ranged =
      All_image (hit_at (terms_of ls)) (λ h. (1 ≤ h.doc) × (h.doc ≤ lim)) (matches m (terms_of ls))
      (matches-all m (λ d. (1 ≤ d) × (d ≤ lim)) (terms_of ls) (good-docs (λ d. (1 ≤ d) × (d ≤ lim)) lim ls (λ b p a u w. (omega (arith, w.from), omega (arith, w.upto))) g))

  scored : All (λ h. (1 ≤ h.score) × (h.score ≤ ceiling_at ls h.doc)) hs
  scored =
      All_image (hit_at (terms_of ls)) (λ h. (1 ≤ h.score) × (h.score ≤ ceiling_at ls h.doc)) (matches m (terms_of ls))
      (All_has (λ d. (1 ≤ score_of (terms_of ls) d) × (score_of (terms_of ls) d ≤ ceiling_at ls d)) (matches m (terms_of ls))
      (λ d h. (score-some lim d ls g (and-true (m (holds (terms_of ls) d) d) (some (holds (terms_of ls) d)) (sym (matches-has m (terms_of ls) d) ∙ h)).1, score-ceiling lim d ls g)))

  -- an interval's hits come from the blocks that it meets
  interval-hits : (v : Interval) → ((d : ℕ) → lies v d ≡ true → sees ls d ≡ sees ls v.first) → (span_of m bar ls v).hits ≡ within v.first v.last hs
  interval-hits v s =
      sym (hits-agree m (terms_of ls) (terms_at ls v.first) v.first v.last (good-docs (λ d. 0 < d) lim ls (λ b p a u w. omega (arith, w.from)) g) (met-docs lim v.first ls g) agree)
    where
      agree : (d : ℕ) → lies v d ≡ true → (holds (terms_of ls) d ≡ holds (terms_at ls v.first) d) × (score_of (terms_of ls) d ≡ score_of (terms_at ls v.first) d)
      agree d i =
          let q : terms_at ls d ≡ terms_at ls v.first = terms-sees ls d v.first (s d i) in
          (holds-met lim d ls g ∙ ap {B = List Bool} (λ t. holds t d) q, score-met lim d ls g ∙ ap {B = ℕ} (λ t. score_of t d) q)

  -- a barred one has none
  barred-none : (v : Interval) → (bar v.first ≡ true → (d : ℕ) → lies v d ≡ true → m (holds (terms_of ls) d) d ≡ false) → bar v.first ≡ true → within v.first v.last hs ≡ []
  barred-none v f b =
      within-hits (terms_of ls) v.first v.last (matches m (terms_of ls))
      ∙ ap (map (hit_at (terms_of ls)))
      (asc_ext 0 0 (filter (lies v) (matches m (terms_of ls))) [] (filter_asc (lies v) 0 (matches m (terms_of ls)) (matches_asc m (terms_of ls) (good-docs (λ d. 0 < d) lim ls (λ b p a u w. omega (arith, w.from)) g))) tt none)
    where
      none : (d : ℕ) → has d (filter (lies v) (matches m (terms_of ls))) ≡ false
      none d = rw (filter-has (lies v) d (matches m (terms_of ls)), matches-has m (terms_of ls) d) (split (lies v d) (λ i. rw (i, f b d i)) (λ i. rw i))

  known : (v : Interval) → ((d : ℕ) → lies v d ≡ true → sees ls d ≡ sees ls v.first) → ((d : ℕ) → lies v d ≡ true → ceiling_at ls d ≡ ceiling ls v)
      → (bar v.first ≡ true → (d : ℕ) → lies v d ≡ true → m (holds (terms_of ls) d) d ≡ false) → Known m bar ls hs v
  known v s c f =
      let q : (span_of m bar ls v).hits ≡ within v.first v.last hs = interval-hits v s in
      record {
        hits = q;
        fair = record {
          capped =
              rw q
              (within_all (λ h. (1 ≤ h.score) × (h.score ≤ ceiling ls v)) (λ h. (1 ≤ h.score) × (h.score ≤ ceiling_at ls h.doc)) v.first v.last hs
              (λ h i w. (w.0, rw (c h.doc i) at w.1)) scored);
          bare = λ b. q ∙ barred-none v f b;
          right = met-right lim v.first ls g;
        };
      }

  all_known : All (Known m bar ls hs) (intervals lim ls)
  all_known = go (intervals lim ls) (same_blocks lim ls) (same-ceiling lim ls) bars
    where
      go : (vs : List Interval) → All (λ v. (d : ℕ) → lies v d ≡ true → sees ls d ≡ sees ls v.first) vs → All (λ v. (d : ℕ) → lies v d ≡ true → ceiling_at ls d ≡ ceiling ls v) vs
          → All (λ v. bar v.first ≡ true → (d : ℕ) → lies v d ≡ true → m (holds (terms_of ls) d) d ≡ false) vs → All (Known m bar ls hs) vs
      go [] s c f = tt
      go (v ∷ vs) s c f = (known v s.0 c.0 f.0, go vs s.1 c.1 f.1)

  -- The intervals hold each match once
  pub spans-hits : all_hits (spans m bar lim ls) ≡ hs
  spans-hits =
      known_hits m bar ls hs (intervals lim ls) all_known
      ∙ joined-from 0 lim 1 (cuts lim ls) hs rise (omega arith) (cuts_asc lim ls) (cuts-most lim ls)
      ∙ within-whole 1 lim hs ranged

  pub spans-sound : Sound (spans m bar lim ls)
  spans-sound = record {
    rising = rw spans-hits rise;
    fair = All_image (span_of m bar ls) Fair (intervals lim ls) (All_map (intervals lim ls) (λ v k. k.fair) all_known);
  }

  -- "both give the same hits": the first k of all matches, in order
  pub pruned-ranking : (k : ℕ) → pruned m bar lim k ls ≡ done (ranking k (hits_of m (terms_of ls)))
  pruned-ranking k = rw (sym spans-hits) (search-ranking k (spans m bar lim ls) spans-sound)

  pub exhaustive-ranking : (k : ℕ) → exhaustive m k ls ≡ done (ranking k (hits_of m (terms_of ls)))
  exhaustive-ranking k = rw (all_right_lem lim ls g)

  pub pruned-exhaustive : (k : ℕ) → pruned m bar lim k ls ≡ exhaustive m k ls
  pruned-exhaustive k = pruned-ranking k ∙ sym (exhaustive-ranking k)

  -- The book. The lower matches of an interval:
  abbrev pub lower : Interval → List Hit
  lower v = within 1 (v.first - 1) hs

  abbrev pub mark_of : ℕ → Interval → ℕ
  mark_of k v = cond (opens k (sort (lower v)) (span_of m bar ls v)) 1 0

  mark-here : (k : ℕ) (v : Interval) → 1 ≤ k → Known m bar ls hs v → mark k (done (best k (lower v))) (span_of m bar ls v) ≡ mark_of k v
  mark-here k v l w = mark-best k (lower v) (span_of m bar ls v) l w.fair.right

  step-here : (k : ℕ) (v : Interval) (c : ℕ) → v.last ≡ c - 1 → 1 ≤ v.first → v.first ≤ c → Known m bar ls hs v
      → step k (done (best k (lower v))) (span_of m bar ls v) ≡ done (best k (within 1 (c - 1) hs))
  step-here k v c q p l w =
      let both : lower v ++ within v.first v.last hs ≡ within 1 (c - 1) hs = rw q (within-split 0 1 v.first (c - 1) hs p p (omega arith) rise) in
      step_keeps k (v.first - 1) (best k (lower v)) (span_of m bar ls v)
      (best-upto k (v.first - 1) (lower v) (within-rising 0 1 (v.first - 1) hs rise) (All_map (lower v) (λ h d. d.1) (within_range 0 1 (v.first - 1) hs rise)))
      (rw w.hits (rising-raise (v.first - 1) 0 (within v.first v.last hs) (All_map (within v.first v.last hs) (λ h d. omega arith) (within_range 0 v.first v.last hs rise)) (within-rising 0 v.first v.last hs rise)))
      w.fair
      ∙ ap {B = Outcome (List Hit)} (λ t. done t)
      (ap (keeps k (best k (lower v))) w.hits
      ∙ sym (foldl-append (keep k) [] (lower v) (within v.first v.last hs))
      ∙ ap (best k) both)

  marks-from : (k lo : ℕ) (cs : List ℕ) → 1 ≤ k → 1 ≤ lo → Asc lo cs → All (Known m bar ls hs) (intervals_from lim lo cs)
      → marks_from k (done (best k (within 1 (lo - 1) hs))) (map (span_of m bar ls) (intervals_from lim lo cs)) ≡ map (mark_of k) (intervals_from lim lo cs)
  marks-from k lo [] l p a w = ap {B = List ℕ} (λ t. t ∷ []) (mark-here k (record { first = lo; last = lim }) l w.0)
  marks-from k lo (c ∷ cs) l p a w =
      cc (
        mark-here k (record { first = lo; last = c - 1 }) l w.0,
        step-here k (record { first = lo; last = c - 1 }) c refl p (omega arith) w.0,
        marks-from k c cs l (omega arith) a.1 w.1,
      )

  -- each interval's mark goes by the matches below it
  pub book-marks : (k : ℕ) → 1 ≤ k → book m bar lim k ls ≡ map (mark_of k) (intervals lim ls)
  book-marks k l =
      ap {B = List ℕ} (λ t. marks_from k (done (best k t)) (spans m bar lim ls)) (sym (within_empty 1 0 hs (omega arith)))
      ∙ marks-from k 1 (cuts lim ls) l (omega arith) (cuts_asc lim ls) all_known

  -- "An interval is skipped exactly when its ceiling is 0, or k lower sheets match and it does not exceed the kth best of them", or it is barred
  pub skip_exactly : (k : ℕ) (v : Interval) → (mark_of k v ≡ 0) ↔ Skipped k (lower v) (span_of m bar ls v)
  skip_exactly k v =
      let w = shut-plain k (lower v) (span_of m bar ls v) in
      (λ e. w.0 (zero_or_one (opens k (sort (lower v)) (span_of m bar ls v)) e), λ h. ap {B = ℕ} (λ t. cond t 1 0) (w.1 h))

  -- "the first j hits for k are the hits for j, and every interval opened for j is opened for k"
  pub hits_more : (j k : ℕ) → j ≤ k → (pruned m bar lim j ls ≡ done (take j (ranking k (hits_of m (terms_of ls))))) × (pruned m bar lim k ls ≡ done (ranking k (hits_of m (terms_of ls))))
  hits_more j k l = (rw (ranking-more j k hs l) (pruned-ranking j), pruned-ranking k)

  pub opened-more : (j k : ℕ) (v : Interval) → j ≤ k → mark_of j v ≡ 1 → mark_of k v ≡ 1
  opened-more j k v l e =
      ap {B = ℕ} (λ t. cond t 1 0) (opens-more j k (lower v) (span_of m bar ls v) l (one_or_zero (opens j (sort (lower v)) (span_of m bar ls v)) e))

-- With no other reason to skip there is nothing to show
pub never_barring : (m : Rule) (lim : ℕ) (ls : List Listing) → Barring m never lim ls
never_barring m lim ls = go (intervals lim ls)
  where
    go : (vs : List Interval) → All (λ v. never v.first ≡ true → (d : ℕ) → lies v d ≡ true → m (holds (terms_of ls) d) d ≡ false) vs
    go [] = tt
    go (v ∷ vs) = ((λ e d i. absurd (false≢true e)), go vs)
