-- The search over intervals: its state between two of them, and its turns. Assumes nothing.
use Prim.Native.Nat.{ℕ, zero, suc, ◌+◌, ◌-◌, ◌*◌, ◌≤◌, ◌<◌}
use mathlib.Core.Path.{◌≡◌, refl, sym, ap, subst, ◌∙◌}
use mathlib.Core.Bool.{true, ◌&&◌}
use mathlib.Core.Option.{Option, none, some}
use mathlib.Core.List.{List, [], ◌∷◌, ◌++◌, map, append_assoc}
use native.Mathlib.Omega.{arith}
use native.Mathlib.Numerals.{add-one}
use lib.Dec.{ltb, leb}
use lib.ListN.{length, get_or, set, take, drop, replicate, length-set, length-map, get_or-replicate, length-replicate, length-drop, take-append-drop}
use lib.Seq.{sets, length-sets, sets-eq, drop-set-lt}
use Rattle.model.proofs.Storing.{front-more}
use borrow.Author.Tests.{ltb-true, ltb-false}
use Rattle.model.specs.Limits.{max_docid, max_terms, per_list}
use Rattle.model.specs.Runs.{All, Asc}
use Rattle.model.specs.Outcome.{done}
use Rattle.model.proofs.Lists.{split, All_map, All_append, or_true, and-true}
use Rattle.rank.specs.Rank.{Hit, kth, keeps, Ordered}
use Rattle.rank.specs.Match.{any_list}
use Rattle.rank.specs.Keep.{kept_of, no_hits, keeper}
use Rattle.rank.specs.declared.keep.Kept.{Kept}
use Rattle.rank.proofs.Keepings.{kept_more}
use Rattle.prune.specs.Cut.{Block, Listing, meets, ceiling_at, Rises, starts}
use Rattle.prune.specs.Search.{Span, opens}
use Rattle.prune.specs.Prune.{never, span_of, spans, fault_at, terms_at, book, chosen, met_by, count_in, count_met}
use Rattle.prune.specs.Loop.{Searching}
use Rattle.prune.proofs.Cuts.{cuts_asc, cuts-most}
use Rattle.prune.proofs.Loopings.{searching_none, searching_open, searching_stop, searching_done}
use Rattle.scan.specs.Heads.{roomy}
use Rattle.scan.specs.Load.{head_of}
use Rattle.scan.specs.declared.head.Head.{Head}
use Rattle.scan.proofs.Loadings.{stood}
use Rattle.opening.specs.Table.{gap, numbered, from_of, list_in, lists_in, block_in}
use Rattle.opening.specs.Meet.{Placed, AllMoved}
use Rattle.intervals.specs.Book.{opens_by, Skips}
use Rattle.opening.specs.Enter.{AllStand, told, fault_from, new_from, Enterable}
use Rattle.opening.specs.Turn.{term_met, Openable, Opens}
use Rattle.intervals.specs.Run.{last_at, Runnable, Ended, Halted, Begins, Idles}
use Rattle.opening.specs.declared.turn.Turn.{Turn}
use Rattle.opening.proofs.Numbers.{numbered-length}
use Rattle.opening.proofs.Meets.{met_low, met-reached}
use Rattle.opening.proofs.Standings.{stood_stands, is-few}
use Rattle.opening.proofs.Turns.{all-stand-on}
use Rattle.intervals.proofs.Spans.{met_of, interval_at, no_span, spans-long, span_at, opens_by_lem, searching_pass, chosen-set, chosen-pass, terms-met, fault-met, count_phantom, count-more, count-nothing, asc_up, asc_step, drop-marked, fault_gaps, get_d_in}
use Rattle.std.specs.Prelude as prelude

meets-last : (los : List ℕ) (d : ℕ) (b : Block) → meets b d ≡ true → met_by (los ++ (d ∷ [])) b ≡ true
meets-last [] d b e = rw e
meets-last (o ∷ los) d b e = rw (meets-last los d b e) (or_true (meets b o))

pub new-few : (was mets : List ℕ) (n t : ℕ) → new_from was mets n t ≤ n
new-few was mets zero t = omega arith
new-few was mets (suc n) t = omega (arith, is-few (get_or was t 0) (get_or mets t 0), new-few was mets n (suc t))

-- an interval opens no more blocks than there are lists
pub opens-few : (s los his tops counts bodies weights was mets : List ℕ) (heads : List Head) (ds ss ds' ss' : List ℕ) (first last k : ℕ) (kept : Kept) (r : Turn) → Opens s los his tops counts bodies weights was mets heads ds ss ds' ss' first last k kept r → r.fresh ≤ max_terms
opens-few s los his tops counts bodies weights was mets heads ds ss ds' ss' first last k kept r op = omega (arith, op.fresh, new-few was mets max_terms 0)

all_three : (ss : List Span) → map {B = ℕ} (λ t. 3) ss ≡ replicate (length ss) 3
all_three [] = refl
all_three (x ∷ ss) = ap {B = List ℕ} (λ t. 3 ∷ t) (all_three ss)

-- no more are opened than there are
count-in : (los : List ℕ) (bs : List Block) → count_in los bs ≤ length bs
count-in los [] = omega arith
count-in los (b ∷ bs) = split (met_by los b) (λ e. rw e (omega (arith, count-in los bs))) (λ e. rw e (omega (arith, count-in los bs)))

count_most : (B : ℕ → Block) (ends ws los : List ℕ) (n t : ℕ) → ((u : ℕ) → u < t + n → get_or ends u 0 - from_of ends u ≤ per_list) → count_met los (numbered (list_in B ends ws) n t) ≤ n * per_list
count_most B ends ws los zero t h = omega arith
count_most B ends ws los (suc n) t h =
    let bs = (list_in B ends ws t).blocks in
    omega (arith, count-in los bs, numbered-length B (get_or ends t 0 - from_of ends t) (from_of ends t), h t (omega arith), count_most B ends ws los n (suc t) (λ u l. h u (omega arith)))

-- a skip leaves what lies past the intervals
pub skip_past : (ceilings mk row : List ℕ) (n x i r : ℕ) → Skips ceilings n x i mk row r → drop n row ≡ drop n mk
skip_past ceilings mk row n x i r sk =
    let size : length (replicate {A = ℕ} (r - i) 0) ≡ r - i = length-replicate (r - i) 0 in
    ap {B = List ℕ} (λ z. drop n z) sk.marked ∙ drop-marked n (replicate (r - i) 0) mk i (omega (arith, sk.on, sk.upto))

pub skip_long : (ceilings mk row : List ℕ) (n x i r : ℕ) → Skips ceilings n x i mk row r → length row ≡ length mk
skip_long ceilings mk row n x i r sk = ap length sk.marked ∙ length-sets mk i (replicate (r - i) 0)

-- nothing is kept at first
pub kth-none : (k : ℕ) (t : Kept) → t ≡ no_hits → 0 ≡ kth k (kept_of t)
kth-none k t z = rw z

-- the marks where the search stops
stop-row : (row : List ℕ) (i n : ℕ) → i < n → n ≤ length row → sets (set row i 2) (i + 1) (replicate (n - (i + 1)) 3) ≡ (take i row ++ 2 ∷ replicate (n - (i + 1)) 3) ++ drop n row
stop-row row i n l h =
    let vs : List ℕ = replicate (n - (i + 1)) 3 in
    let size : length vs ≡ n - (i + 1) = length-replicate (n - (i + 1)) 3 in
    let m : i + 1 + length vs ≡ n = omega arith in
    let long : length (set row i 2) ≡ length row = length-set row i 2 in
    sets-eq vs (set row i 2) (i + 1) (omega arith)
    ∙ rw (front-more row i 2 (omega arith), m, drop-set-lt n row i 2 l) (simp append_assoc)

-- Past i intervals, of which the one that begins at q was opened last: the lists stand from p on in the blocks that q meets. Before the first it is as
-- if one had been opened at docid 0, where no block is
pub record Past (s ends los his tops counts bodies weights : List ℕ) (k : ℕ) (firsts old : List ℕ) (i : ℕ) (kept : Kept) (opened : ℕ) (heads : List Head) (ds ss ats mets row : List ℕ) : Type 0 where
  pub searching : Searching k (spans any_list never max_docid (lists_in (block_in s los his tops counts bodies) ends weights)) i (kept_of kept) row
  pub wide : length firsts ≤ length old
  pub same : length row ≡ length old
  pub past : drop (length firsts) row ≡ drop (length firsts) old
  pub within : i ≤ length firsts
  pub whole : kept ≡ keeper (kept_of kept)
  pub room : kept.n ≤ k
  pub order : Ordered (kept_of kept)
  pub q : ℕ
  pub p : ℕ
  pub on : q ≤ p
  pub upto : i < length firsts → p ≤ get_or firsts i 0
  pub stand : AllStand (block_in s los his tops counts bodies) weights ds ss mets p heads
  pub right : fault_from (block_in s los his tops counts bodies) mets max_terms 0 ≡ none
  pub places : length ats ≡ max_terms
  pub read : length mets ≡ max_terms
  pub blocks : (t : ℕ) → t < max_terms → get_or mets t 0 ≡ met_of (block_in s los his tops counts bodies) ends t q
  pub placed : (t : ℕ) → t < max_terms → (from_of ends t ≤ get_or ats t 0) × (get_or ats t 0 ≤ get_or ends t 0)
  pub passed : (t : ℕ) → t < max_terms → (j : ℕ) → from_of ends t ≤ j → j < get_or ats t 0 → get_or his j 0 < q
  pub before : All (λ o. o ≤ q) (0 ∷ chosen (take i row) firsts)
  pub seen : (b : Block) → meets b q ≡ true → met_by (0 ∷ chosen (take i row) firsts) b ≡ true
  pub count : opened ≡ count_met (0 ∷ chosen (take i row) firsts) (lists_in (block_in s los his tops counts bodies) ends weights)
  pub few : opened ≤ max_terms * i

module _ (s ends los his tops counts bodies weights : List ℕ) (k : ℕ) (firsts ceilings marks₀ : List ℕ) (ok : Runnable s ends los his tops counts bodies weights k firsts ceilings marks₀) where
  abbrev B : ℕ → Block
  B = block_in s los his tops counts bodies

  abbrev ls : List Listing
  ls = lists_in B ends weights

  most : (t : ℕ) → t < length ends → (from_of ends t ≤ get_or ends t 0) × (get_or ends t 0 ≤ gap)
  most t l = let e = ok.seen t (omega (arith, ok.lists)) in (e.order, e.upto)

  rises : (t : ℕ) → t < length ends → Rises 0 (list_in B ends weights t).blocks
  rises t l = (ok.seen t (omega (arith, ok.lists))).rises

  firsts_asc : Asc 0 firsts
  firsts_asc = rw ok.first (omega arith, cuts_asc max_docid ls)

  spans_are : length (spans any_list never max_docid ls) ≡ length firsts
  spans_are = spans-long max_docid ls ∙ ap length (sym ok.first)

  span_is : (i : ℕ) → i < length firsts → get_or (spans any_list never max_docid ls) i (no_span max_docid ls) ≡ span_of any_list never ls (interval_at max_docid firsts i)
  span_is i l =
      let e : length firsts ≡ length (starts max_docid ls) = ap length ok.first in
      span_at max_docid ls i (omega arith) ∙ ap {B = Span} (λ xs. span_of any_list never ls (interval_at max_docid xs i)) (sym ok.first)

  opens-is : (kept : List Hit) (i x : ℕ) → i < length firsts → x ≡ kth k kept → opens k kept (get_or (spans any_list never max_docid ls) i (no_span max_docid ls)) ≡ opens_by x (get_or ceilings i 0)
  opens-is kept i x l e =
      ap (opens k kept) (span_is i l)
      ∙ opens_by_lem k kept ls (interval_at max_docid firsts i)
      ∙ rw (e, ok.ceiled, get_d_in (ceiling_at ls) firsts i l)

  pub ceilings-long : length ceilings ≡ length firsts
  ceilings-long = ap length ok.ceiled ∙ length-map firsts (ceiling_at ls)

  -- ---- before the first
  pub past-none : (kept : Kept) (heads : List Head) (ds ss ats mets : List ℕ) → kept ≡ no_hits → length ds ≡ roomy → length ss ≡ roomy → Begins ends ats max_terms → Idles weights heads max_terms
      → mets ≡ replicate max_terms gap → Past s ends los his tops counts bodies weights k firsts marks₀ 0 kept 0 heads ds ss ats mets marks₀
  past-none kept heads ds ss ats mets z a b bg id m =
      let none_kept : kept_of kept ≡ [] = rw z in
      let gaps : (t : ℕ) → t < max_terms → get_or mets t 0 ≡ gap = λ t l. rw m (get_or-replicate max_terms t gap 0 l) in
      record {
        searching = rw none_kept (searching_none k (spans any_list never max_docid ls) marks₀);
        wide = ok.room;
        same = refl;
        past = refl;
        within = omega arith;
        whole = rw z;
        room = rw z (omega arith);
        order = rw none_kept tt;
        q = 0;
        p = 0;
        on = omega arith;
        upto = λ l. omega arith;
        stand = record {
          lists = id.long;
          docids = a;
          scored = b;
          each = λ t l. rw (gaps t l, id.each t l)
              (stood_stands ds ss (get_or weights t 0) 0 t (done []) [] (head_of (get_or weights t 0) t []) refl tt
              (stood (get_or weights t 0) t [] ds ss (record { mine = l; few = omega arith; low = tt; docids = a; scored = b })));
        };
        right = fault_gaps B mets max_terms 0 (λ u x l. gaps u (omega arith));
        places = bg.long;
        read = rw m (length-replicate max_terms gap);
        blocks = λ t l. gaps t l ∙ sym (met_low B 0 (get_or ends t 0 - from_of ends t) (from_of ends t) 0 (omega arith) (ok.seen t l).rises);
        placed = λ t l. let e = bg.each t l in (omega (arith, e), omega (arith, e, (ok.seen t l).order));
        passed = λ t l j x y. absurd (omega (arith, bg.each t l));
        before = (omega arith, tt);
        seen = λ b e. rw e;
        count = sym (count_phantom B ends weights most rises [] (length ends) 0 (omega arith) ∙ count-nothing ls);
        few = omega arith;
      }

  -- ---- intervals passed over
  module _ (old : List ℕ) (i : ℕ) (kept : Kept) (opened : ℕ) (heads : List Head) (ds ss ats mets row : List ℕ)
      (w : Past s ends los his tops counts bodies weights k firsts old i kept opened heads ds ss ats mets row) where
    pub past_skip : (x : ℕ) (row' : List ℕ) (r : ℕ) → x ≡ kth k (kept_of kept) → Skips ceilings (length firsts) x i row row' r
        → Past s ends los his tops counts bodies weights k firsts old r kept opened heads ds ss ats mets row'
        × (r < length firsts → opens k (kept_of kept) (get_or (spans any_list never max_docid ls) r (no_span max_docid ls)) ≡ true)
    past_skip x row' r e sk =
        let m = r - i in
        let at : i + m ≡ r = omega (arith, sk.on) in
        let few-marks : length (replicate {A = ℕ} m 0) ≡ m = length-replicate m 0 in
        let moved : Searching k (spans any_list never max_docid ls) r (kept_of kept) row' =
        rw sk.marked (subst (λ z. Searching k (spans any_list never max_docid ls) z (kept_of kept) (sets row i (replicate m 0))) at
        (searching_pass k (spans any_list never max_docid ls) (no_span max_docid ls) (kept_of kept) m i row w.searching (omega (arith, sk.upto, spans_are)) (omega (arith, sk.upto, w.same, w.wide))
        (λ j a b. opens-is (kept_of kept) j x (omega (arith, sk.upto)) e ∙ sk.shut j a (omega arith)))) in
        let took : chosen (take r row') firsts ≡ chosen (take i row) firsts =
        rw sk.marked (subst (λ z. chosen (take z (sets row i (replicate m 0))) firsts ≡ chosen (take i row) firsts) at
        (chosen-pass firsts m i row (omega (arith, sk.upto, w.same, w.wide)) (omega (arith, sk.upto)))) in (
          record {
            searching = moved;
            wide = w.wide;
            same = ap length sk.marked ∙ length-sets row i (replicate m 0) ∙ w.same;
            past = ap {B = List ℕ} (λ z. drop (length firsts) z) sk.marked ∙ drop-marked (length firsts) (replicate m 0) row i (omega (arith, sk.upto)) ∙ w.past;
            within = sk.upto;
            whole = w.whole;
            room = w.room;
            order = w.order;
            q = w.q;
            p = w.p;
            on = w.on;
            upto = λ l. omega (arith, w.upto (omega (arith, sk.on)), (asc_up 0 i r firsts firsts_asc sk.on l).1);
            stand = w.stand;
            right = w.right;
            places = w.places;
            read = w.read;
            blocks = w.blocks;
            placed = w.placed;
            passed = w.passed;
            before = rw took w.before;
            seen = λ b f. rw took (w.seen b f);
            count = rw took w.count;
            few = omega (arith, w.few, sk.on);
          },
          λ l. opens-is (kept_of kept) r x l e ∙ sk.opened l,
        )

    -- from here on, by the marks as they stand
    pub past_rebase : Past s ends los his tops counts bodies weights k firsts row i kept opened heads ds ss ats mets row
    past_rebase = record {
      searching = w.searching;
      wide = omega (arith, w.wide, w.same);
      same = refl;
      past = refl;
      within = w.within;
      whole = w.whole;
      room = w.room;
      order = w.order;
      q = w.q;
      p = w.p;
      on = w.on;
      upto = w.upto;
      stand = w.stand;
      right = w.right;
      places = w.places;
      read = w.read;
      blocks = w.blocks;
      placed = w.placed;
      passed = w.passed;
      before = w.before;
      seen = w.seen;
      count = w.count;
      few = w.few;
    }

    pub past-few : opened ≤ max_terms * per_list
    past-few =
        let c = count_most B ends weights (0 ∷ chosen (take i row) firsts) max_terms 0 (λ u l. (ok.seen u (omega arith)).most) in
        let e : count_met (0 ∷ chosen (take i row) firsts) ls ≡ count_met (0 ∷ chosen (take i row) firsts) (numbered (list_in B ends weights) max_terms 0) =
        ap {B = ℕ} (λ n. count_met (0 ∷ chosen (take i row) firsts) (numbered (list_in B ends weights) n 0)) ok.lists in
        omega (arith, w.count)

    -- ---- the interval's docids
    all-at : (P : ℕ → Type 0) (xs : List ℕ) (j : ℕ) → j < length xs → All P xs → P (get_or xs j 0)
    all-at P [] j l a = absurd (omega arith)
    all-at P (x ∷ xs) zero l a = a.0
    all-at P (x ∷ xs) (suc j) l a = all-at P xs j (omega arith) a.1

    first-most : (j : ℕ) → j < length firsts → get_or firsts j 0 ≤ max_docid
    first-most j l = all-at (λ c. c ≤ max_docid) firsts j l (rw ok.first (omega arith, cuts-most max_docid ls))

    pub past_next : i + 1 < length firsts → 0 < get_or firsts (i + 1) 0
    past_next l = (asc_up 0 (i + 1) (i + 1) firsts firsts_asc (omega arith) l).0

    bounds : i < length firsts → (get_or firsts i 0 ≤ suc (last_at max_docid firsts i)) × (last_at max_docid firsts i ≤ max_docid) × (i + 1 < length firsts → suc (last_at max_docid firsts i) ≤ get_or firsts (i + 1) 0)
    bounds l =
        split (ltb (i + 1) (length firsts))
        (λ e. let h : i + 1 < length firsts = ltb-true (i + 1) (length firsts) e in
        let u = asc_step 0 i firsts firsts_asc h in
        rw e (omega arith, omega (arith, first-most (i + 1) h), λ x. omega arith))
        (λ e. rw e (omega (arith, first-most i l), omega arith, λ x. absurd (omega (arith, ltb-false (i + 1) (length firsts) e))))

    pub past-places : Placed los his ends ats
    past-places = record { lists = ok.lists; places = w.places; before = λ t l. (w.placed t l).1; least = ok.least_in; greatest = ok.greatest_in }

    -- ---- the interval opened
    module _ (l : i < length firsts) (ats' mets' : List ℕ) (am : AllMoved los his ends ats ats' mets' (get_or firsts i 0)) where
      late : w.q ≤ get_or firsts i 0
      late = omega (arith, w.on, w.upto l)

      ended-below : (t : ℕ) → t < max_terms → (j : ℕ) → from_of ends t ≤ j → j < get_or ats' t 0 → get_or his j 0 < get_or firsts i 0
      ended-below t h j a b =
          split (ltb j (get_or ats t 0))
          (λ e. omega (arith, w.passed t h j a (ltb-true j (get_or ats t 0) e), late))
          (λ e. (am.each t h).reached.below j (ltb-false j (get_or ats t 0) e) b)

      now_placed : (t : ℕ) → t < max_terms → (from_of ends t ≤ get_or ats' t 0) × (get_or ats' t 0 ≤ get_or ends t 0)
      now_placed t h = (omega (arith, (w.placed t h).0, (am.each t h).reached.on), (am.each t h).reached.upto)

      now_met : (t : ℕ) → t < max_terms → get_or mets' t 0 ≡ met_of B ends t (get_or firsts i 0)
      now_met t h =
          let f = from_of ends t in
          let e = get_or ends t 0 in
          let z : f + (e - f) ≡ e = omega (arith, (ok.seen t h).order) in
          let m = met-reached B 0 (e - f) f (get_or ats' t 0) (get_or firsts i 0) (ok.seen t h).rises (now_placed t h).0 (omega (arith, (now_placed t h).1)) (ended-below t h)
          (λ x. (am.each t h).reached.ends (omega arith)) in
          (am.each t h).met ∙ sym (rw z at m)

      now_met' : (t : ℕ) → t < length ends → get_or mets' t 0 ≡ met_of B ends t (get_or firsts i 0)
      now_met' t h = now_met t (omega (arith, ok.lists))

      was_met : (t : ℕ) → t < length ends → get_or mets t 0 ≡ met_of B ends t w.q
      was_met t h = w.blocks t (omega (arith, ok.lists))

      pub past_enters : Enterable s los his tops counts bodies weights mets mets' ds ss
      past_enters = record {
        weighted = ok.weighted;
        before = w.read;
        blocks = am.blocks;
        docids = w.stand.docids;
        scored = w.stand.scored;
        each = λ t h ne. split (ltb (get_or ats' t 0) (get_or ends t 0) && leb (get_or los (get_or ats' t 0) 0) (get_or firsts i 0))
            (λ e. let m : get_or mets' t 0 ≡ get_or ats' t 0 = rw e at (am.each t h).met in
            rw m (ok.load t (get_or ats' t 0) h (ltb-true _ _ (and-true (ltb (get_or ats' t 0) (get_or ends t 0)) _ e).0)))
            (λ e. let m : get_or mets' t 0 ≡ gap = rw e at (am.each t h).met in absurd (ne m));
      }

      pub past-opens : (last : ℕ) → last ≡ last_at max_docid firsts i → Openable s los his tops counts bodies weights mets heads ds ss (get_or firsts i 0) last k kept
      past-opens last e = record {
        stand = all-stand-on B weights ds ss mets w.p (get_or firsts i 0) heads (w.upto l) w.stand;
        right = w.right;
        from = rw e (bounds l).0;
        below = rw e (bounds l).1;
        room = w.room;
        least = ok.least;
        most = ok.most;
        order = w.order;
      }

      faults : fault_at ls (get_or firsts i 0) ≡ fault_from B mets' max_terms 0
      faults = fault-met B ends weights most mets' (get_or firsts i 0) (length ends) 0 (omega arith) now_met' ∙ ap {B = Option ℕ} (λ n. fault_from B mets' n 0) ok.lists

      terms_are : terms_at ls (get_or firsts i 0) ≡ numbered (term_met B weights mets') max_terms 0
      terms_are = terms-met B ends weights most mets' (get_or firsts i 0) (length ends) 0 (omega arith) now_met' ∙ ap (λ n. numbered (term_met B weights mets') n 0) ok.lists

      module _ (o : opens k (kept_of kept) (get_or (spans any_list never max_docid ls) i (no_span max_docid ls)) ≡ true) (last : ℕ) (le : last ≡ last_at max_docid firsts i)
          (ds' ss' : List ℕ) (r : Turn) (op : Opens s los his tops counts bodies weights mets mets' heads ds ss ds' ss' (get_or firsts i 0) last k kept r) where
        opens-here : opens k (kept_of kept) (span_of any_list never ls (interval_at max_docid firsts i)) ≡ true
        opens-here = sym (ap (opens k (kept_of kept)) (span_is i l)) ∙ o

        -- the search goes on
        pub past_open : r.wrong ≡ prelude.None → Past s ends los his tops counts bodies weights k firsts old (i + 1) r.kept (opened + r.fresh) r.heads ds' ss' ats' mets' (set row i 1)
        past_open h =
            let none-wrong : told r.wrong ≡ none = ap told h in
            let right-now : fault_from B mets' max_terms 0 ≡ none = sym op.wrong ∙ none-wrong in
            let hits : kept_of r.kept ≡ keeps k (kept_of kept) (span_of any_list never ls (interval_at max_docid firsts i)).hits = op.hits none-wrong ∙ rw (le, terms_are) in
            let wide : i < length row = omega (arith, w.wide, w.same) in
            let took : chosen (take (i + 1) (set row i 1)) firsts ≡ chosen (take i row) firsts ++ (get_or firsts i 0 ∷ []) = rw (add-one i) (chosen-set row firsts i 1 wide l) in
            let new : opened + r.fresh ≡ count_met ((0 ∷ chosen (take i row) firsts) ++ (get_or firsts i 0 ∷ [])) ls =
            let c = count-more B ends weights most rises (0 ∷ chosen (take i row) firsts) mets mets' w.q (get_or firsts i 0) (length ends) 0 (omega arith) w.before late w.seen was_met now_met' in
            let f : new_from mets mets' (length ends) 0 ≡ new_from mets mets' max_terms 0 = ap {B = ℕ} (λ n. new_from mets mets' n 0) ok.lists in
            omega (arith, w.count, op.fresh) in
            record {
              searching = subst (λ z. Searching k (spans any_list never max_docid ls) (i + 1) z (set row i 1)) (sym hits)
                  (searching_open k (spans any_list never max_docid ls) i (kept_of kept) row (no_span max_docid ls) (span_of any_list never ls (interval_at max_docid firsts i)) w.searching (omega (arith, spans_are)) wide (span_is i l) opens-here (faults ∙ right-now));
              wide = w.wide;
              same = length-set row i 1 ∙ w.same;
              past = drop-set-lt (length firsts) row i 1 l ∙ w.past;
              within = omega arith;
              whole = kept_more no_hits kept r.kept k (span_of any_list never ls (interval_at max_docid firsts i)).hits w.room w.whole hits (op.rows none-wrong);
              room = op.room;
              order = op.order;
              q = get_or firsts i 0;
              p = suc last;
              on = rw le (bounds l).0;
              upto = λ x. rw le ((bounds l).2 x);
              stand = op.stand none-wrong;
              right = right-now;
              places = am.places;
              read = am.blocks;
              blocks = now_met;
              placed = now_placed;
              passed = ended-below;
              before = rw took (
                omega arith,
                All_append (λ x. x ≤ get_or firsts i 0) (chosen (take i row) firsts) (get_or firsts i 0 ∷ [])
                    (All_map (chosen (take i row) firsts) (λ x y. omega (arith, late)) w.before.1) (omega arith, tt),
              );
              seen = λ b e. rw took (meets-last (0 ∷ chosen (take i row) firsts) (get_or firsts i 0) b e);
              count = rw took new;
              few = omega (arith, w.few, op.fresh, new-few mets mets' max_terms 0);
            }

        -- it stops
        pub past_stop : (mk row'' : List ℕ) (at : ℕ) → r.wrong ≡ prelude.Some at → drop (length firsts) old ≡ drop (length firsts) mk
            → row'' ≡ sets (set row i 2) (i + 1) (replicate (length firsts - (i + 1)) 3)
            → Halted s ends los his tops counts bodies weights k firsts mk row'' at
        past_stop mk row'' at h d e =
            let found : fault_at ls (get_or firsts i 0) ≡ some at = faults ∙ sym op.wrong ∙ ap told h in
            let st = searching_stop k (spans any_list never max_docid ls) i (kept_of kept) row (no_span max_docid ls) (span_of any_list never ls (interval_at max_docid firsts i)) w.searching (omega (arith, spans_are)) (omega (arith, w.wide, w.same)) (span_is i l) at opens-here found in
            let left : length firsts - (i + 1) ≡ length (drop (suc i) (spans any_list never max_docid ls)) = omega (arith, length-drop (suc i) (spans any_list never max_docid ls), spans_are) in
            record {
              found = sym st.0;
              marked = e ∙ stop-row row i (length firsts) l (omega (arith, w.wide, w.same))
                  ∙ rw (w.past, d)
                  (ap {B = List ℕ} (λ z. (take i row ++ 2 ∷ z) ++ drop (length firsts) mk)
                  (ap {B = List ℕ} (λ n. replicate n 3) left ∙ sym (all_three (drop (suc i) (spans any_list never max_docid ls))))
                  ∙ ap {B = List ℕ} (λ z. z ++ drop (length firsts) mk) (sym st.1));
            }

    -- ---- past the last
    pub past-done : (mk : List ℕ) → length firsts ≤ i → drop (length firsts) old ≡ drop (length firsts) mk
        → Ended s ends los his tops counts bodies weights k firsts mk row (record { kept = kept; opened = opened })
    past-done mk h d =
        let e : i ≡ length firsts = omega (arith, w.within) in
        let st = searching_done k (spans any_list never max_docid ls) i (kept_of kept) row w.searching (omega (arith, spans_are)) in
        record {
          found = sym st.0;
          marked = sym (take-append-drop (length firsts) row) ∙ rw (w.past, d) (ap {B = List ℕ} (λ z. z ++ drop (length firsts) mk) (ap {B = List ℕ} (λ n. take n row) (sym e) ∙ sym st.1));
          opened = w.count ∙ count_phantom B ends weights most rises (chosen (take i row) firsts) (length ends) 0 (omega arith)
              ∙ ap {B = ℕ} (λ z. count_met (chosen z firsts) ls) (sym st.1) ∙ ap {B = ℕ} (λ z. count_met (chosen (book any_list never max_docid k ls) z) ls) ok.first;
          few = w.room;
          whole = w.whole;
        }
