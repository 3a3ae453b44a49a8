-- Demand 1, the exception: "A refusal changes no output, except a bad block met during a search, where the interval book shows how far the search
-- came." For every query, shelf and lent run. Assumes nothing.
use Prim.Native.Nat.{ℕ, zero, suc, ◌≤◌, ◌<◌}
use native.Mathlib.Omega.{arith}
use mathlib.Core.Path.{◌≡◌, refl, sym, ap, subst, ◌∙◌}
use mathlib.Core.Bool.{true, false, cond, ◌&&◌}
use mathlib.Core.Logic.{inl, inr, ◌↔◌}
use mathlib.Core.Option.{Option, none, some}
use mathlib.Core.List.{List, [], ◌∷◌, ◌++◌, map, map-map, foldl-append, append-nil, append_assoc}
use borrow.Author.Tests.{leb-true}
use lib.Dec.{leb}
use lib.ListN.{length, take, get_or, replicate, length-map}
use Rattle.model.specs.Limits.{max_docid}
use Rattle.model.specs.Outcome.{Outcome, refused, done, and_then}
use Rattle.model.specs.Runs.{All}
use Rattle.model.proofs.Lists.{split, both_ways, and-true, map_same}
use Rattle.shelf.specs.Walk.{Listing, walk}
use Rattle.query.specs.Query.{Question, asked}
use Rattle.query.proofs.Accepted.{accepted}
use Rattle.query.proofs.Judging as judging
use Rattle.rank.specs.Rank.{Hit, sort, keep, keeps, best}
use Rattle.rank.proofs.Ranks.{best-ranking, sort-length}
use Rattle.rank.specs.Match.{any_list}
use Rattle.prune.specs.Cut as Cut
use Rattle.prune.specs.Cut.{starts, intervals, ceiling_at}
use Rattle.prune.specs.Search.{Span, opens, unless, opened, search_from, marks_from}
use Rattle.prune.specs.Prune.{fault_at, never, span_of, spans, book, pruned}
use Rattle.prune.proofs.Parts.{firsts}
use Rattle.prune.proofs.Searches.{opens_plain, opens-best, marks-past}
use Rattle.exhaustive.specs.Lists.{listings_of}
use Rattle.intervals.specs.Blocks.{room_for}
use Rattle.pruned.specs.Pruned.{Sought, Answer, fitting, sought, answer, searched}
use Rattle.pruned.proofs.Endings.{book-long}
use Rattle.promises.specs.Refusals.{Numbered}
use Rattle.promises.specs.Rows.{Past}
use Rattle.promises.specs.Book.{Met, met_on, found, OpenRule, Passed, Searching, Stopping, Ending}
use Rattle.promises.specs.Served.{lists_for, interval_count}
use Rattle.promises.proofs.Rows.{front-past}
use Rattle.promises.proofs.Numbers.{then_numbered, either_numbered, renumbered, asked-numbered, walk-numbered}

-- ---- a search by the rule

threes : (ss : List Span) → map {B = ℕ} (λ (s : Span). 3) ss ≡ replicate (length ss) 3
threes [] = refl
threes (s ∷ ss) = ap {B = List ℕ} (λ t. 3 ∷ t) (threes ss)

-- nothing happens past a refusal
past_eight : (k n at : ℕ) (ss : List Span) → search_from k (refused n at) ss ≡ refused n at
past_eight k n at [] = refl
past_eight k n at (s ∷ ss) = past_eight k n at ss

-- what the rule goes by in some intervals
abbrev met_in : List Span → Met
met_in ss = record { ceilings = map (λ (s : Span). s.ceiling) ss; faults = map (λ (s : Span). s.fault) ss; sheets = map (λ (s : Span). s.hits) ss }

-- as `ByRule`, where `seen` was found before these intervals
abbrev PassedFrom : (k : ℕ) (seen : List Hit) (m : Met) (marks : List ℕ) → Type 0
PassedFrom k seen m marks = (i : ℕ) → i < length marks → Passed k (get_or m.ceilings i 0) (get_or m.faults i none) (seen ++ found (take i marks) m.sheets) (get_or marks i 0)

record StopsFrom (k : ℕ) (seen : List Hit) (at : ℕ) (m : Met) (marks : List ℕ) : Type 0 where
  before : List ℕ
  past : ℕ
  shows : marks ≡ before ++ (2 ∷ replicate past 3)
  passed : PassedFrom k seen m before
  here : OpenRule k (get_or m.ceilings (length before) 0) (seen ++ found before m.sheets)
  named : get_or m.faults (length before) none ≡ some at

record EndsFrom (k : ℕ) (seen hs : List Hit) (m : Met) (marks : List ℕ) : Type 0 where
  passed : PassedFrom k seen m marks
  hits : hs ≡ best k (seen ++ found marks m.sheets)

-- it stops, or it comes to its end
abbrev Goes : (k : ℕ) (seen : List Hit) → Met → List ℕ → Outcome (List Hit) → Type 0
Goes k seen m marks (refused n at) = StopsFrom k seen at m marks
Goes k seen m marks (done hs) = EndsFrom k seen hs m marks

-- the rule of opening, by what was found
opens_rule : (k : ℕ) (seen : List Hit) (s : Span) → 1 ≤ k → s.barred ≡ false → (opens k (best k seen) s ≡ true) ↔ OpenRule k s.ceiling seen
opens_rule k seen s l b =
    let w : (opens k (sort seen) s ≡ true) ↔ OpenRule k s.ceiling seen = rw (sort-length seen) at (opens_plain k (sort seen) s b) in
    rw (opens-best k seen s l) w

module _ (k : ℕ) (seen : List Hit) (s : Span) (ss : List Span) where
  one-opened : (marks : List ℕ) → Passed k s.ceiling s.fault seen 1 → PassedFrom k (seen ++ s.hits) (met_in ss) marks → PassedFrom k seen (met_in (s ∷ ss)) (1 ∷ marks)
  one-opened marks p w zero l = rw (append-nil seen) p
  one-opened marks p w (suc i) l = rw (sym (append_assoc seen s.hits (found (take i marks) (met_in ss).sheets))) (w i (omega arith))

  one-skipped : (marks : List ℕ) → Passed k s.ceiling s.fault seen 0 → PassedFrom k seen (met_in ss) marks → PassedFrom k seen (met_in (s ∷ ss)) (0 ∷ marks)
  one-skipped marks p w zero l = rw (append-nil seen) p
  one-skipped marks p w (suc i) l = w i (omega arith)

  opened_then : (marks : List ℕ) (o : Outcome (List Hit)) → Passed k s.ceiling s.fault seen 1 → Goes k (seen ++ s.hits) (met_in ss) marks o → Goes k seen (met_in (s ∷ ss)) (1 ∷ marks) o
  opened_then marks (refused n at) p g = record {
    before = 1 ∷ g.before;
    past = g.past;
    shows = ap {B = List ℕ} (λ t. 1 ∷ t) g.shows;
    passed = one-opened g.before p g.passed;
    here = rw (sym (append_assoc seen s.hits (found g.before (met_in ss).sheets))) g.here;
    named = g.named;
  }
  opened_then marks (done hs) p g = record {
    passed = one-opened marks p g.passed;
    hits = rw (sym (append_assoc seen s.hits (found marks (met_in ss).sheets))) g.hits;
  }

  skipped_then : (marks : List ℕ) (o : Outcome (List Hit)) → Passed k s.ceiling s.fault seen 0 → Goes k seen (met_in ss) marks o → Goes k seen (met_in (s ∷ ss)) (0 ∷ marks) o
  skipped_then marks (refused n at) p g = record {
    before = 0 ∷ g.before;
    past = g.past;
    shows = ap {B = List ℕ} (λ t. 0 ∷ t) g.shows;
    passed = one-skipped g.before p g.passed;
    here = g.here;
    named = g.named;
  }
  skipped_then marks (done hs) p g = record { passed = one-skipped marks p g.passed; hits = g.hits }

  stops_here : (at : ℕ) → OpenRule k s.ceiling seen → s.fault ≡ some at → StopsFrom k seen at (met_in (s ∷ ss)) (2 ∷ marks_from k (refused 8 at) ss)
  stops_here at r e = record {
    before = [];
    past = length ss;
    shows = ap {B = List ℕ} (λ t. 2 ∷ t) (marks-past k 8 at ss ∙ threes ss);
    passed = λ i l. absurd (omega arith);
    here = rw (append-nil seen) r;
    named = e;
  }

  -- an interval that the rule opens
  goes_on : (f : Option ℕ) → s.fault ≡ f → OpenRule k s.ceiling seen
      → Goes k (seen ++ s.hits) (met_in ss) (marks_from k (done (best k (seen ++ s.hits))) ss) (search_from k (done (best k (seen ++ s.hits))) ss)
      → Goes k seen (met_in (s ∷ ss)) (opened f ∷ marks_from k (unless f (keeps k (best k seen) s.hits)) ss) (search_from k (unless f (keeps k (best k seen) s.hits)) ss)
  goes_on none e r g =
      rw (sym (foldl-append (keep k) [] seen s.hits))
      (opened_then (marks_from k (done (best k (seen ++ s.hits))) ss) (search_from k (done (best k (seen ++ s.hits))) ss) (inl (refl, r, e)) g)
  goes_on (some at) e r g = rw (past_eight k 8 at ss) (stops_here at r e)

goes_from : (k : ℕ) (seen : List Hit) (ss : List Span) → 1 ≤ k → All (λ (s : Span). s.barred ≡ false) ss
    → Goes k seen (met_in ss) (marks_from k (done (best k seen)) ss) (search_from k (done (best k seen)) ss)
goes_from k seen [] l b = record { passed = λ i m. absurd (omega arith); hits = ap (best k) (sym (append-nil seen)) }
goes_from k seen (s ∷ ss) l b =
    split (opens k (best k seen) s)
    (λ o. rw o (goes_on k seen s ss s.fault refl ((opens_rule k seen s l b.0).0 o) (goes_from k (seen ++ s.hits) ss l b.1)))
    (λ o. rw o (skipped_then k seen s ss (marks_from k (done (best k seen)) ss) (search_from k (done (best k seen)) ss)
    (inr (refl, λ r. both_ways (opens k (best k seen) s) ((opens_rule k seen s l b.0).1 r) o)) (goes_from k seen ss l b.1)))

-- it stops by 8 alone
eight_on : (k : ℕ) (f : Option ℕ) (kept : List Hit) (ss : List Span) → Numbered (λ n. n ≡ 8) (search_from k (done kept) ss) → Numbered (λ n. n ≡ 8) (search_from k (unless f kept) ss)
eight_on k none kept ss ih = ih
eight_on k (some o) kept ss ih = rw (past_eight k 8 o ss) refl

eight_from : (k : ℕ) (kept : List Hit) (ss : List Span) → Numbered (λ n. n ≡ 8) (search_from k (done kept) ss)
eight_from k kept [] = tt
eight_from k kept (s ∷ ss) =
    split (opens k kept s)
    (λ o. rw o (eight_on k s.fault (keeps k kept s.hits) ss (eight_from k (keeps k kept s.hits) ss)))
    (λ o. rw o (eight_from k kept ss))

-- what the rule goes by stands in the query's lists
module _ (ls : List Cut.Listing) where
  abbrev these : List Span
  these = spans any_list never max_docid ls

  free : (vs : List Cut.Interval) → All (λ (s : Span). s.barred ≡ false) (map (span_of any_list never ls) vs)
  free [] = tt
  free (v ∷ vs) = (refl, free vs)

  -- a column that goes by the first docids
  by-firsts : {A : Type 0} (f : Span → A) (g : ℕ → A) → ((v : Cut.Interval) → f (span_of any_list never ls v) ≡ g v.first) → map f these ≡ map g (starts max_docid ls)
  by-firsts f g h =
      map-map f (span_of any_list never ls) (intervals max_docid ls)
      ∙ map_same (λ v. f (span_of any_list never ls v)) (λ v. g v.first) (intervals max_docid ls) h
      ∙ sym (map-map g (λ (v : Cut.Interval). v.first) (intervals max_docid ls))
      ∙ ap (map g) (firsts max_docid ls)

  met_these : met_in these ≡ met_on ls
  met_these =
      let c = by-firsts (λ (s : Span). s.ceiling) (ceiling_at ls) (λ v. refl) in
      let f = by-firsts (λ (s : Span). s.fault) (fault_at ls) (λ v. refl) in
      let h : (met_in these).sheets ≡ (met_on ls).sheets = map-map (λ (s : Span). s.hits) (span_of any_list never ls) (intervals max_docid ls) in
      λ i. record { ceilings = c i; faults = f i; sheets = h i }

  goes : (k : ℕ) → 1 ≤ k → Goes k [] (met_on ls) (book any_list never max_docid k ls) (pruned any_list never max_docid k ls)
  goes k l = subst (λ (m : Met). Goes k [] m (book any_list never max_docid k ls) (pruned any_list never max_docid k ls)) met_these (goes_from k [] these l (free (intervals max_docid ls)))

-- ---- before the search nothing is refused by 8

abbrev NotEight : ℕ → Type 0
NotEight n = n ≡ 8 → ⊥

module _ (q s : List ℕ) (rows a b c : ℕ) where
  sought-numbered : Numbered NotEight (sought q s rows a b c)
  sought-numbered =
      then_numbered NotEight (asked q) _ (renumbered _ NotEight (asked q) (λ n p e. omega arith) (asked-numbered q)) (λ x.
      then_numbered NotEight (walk s) _ (renumbered _ NotEight (walk s) (λ n p e. omega arith) (walk-numbered s)) (λ ls.
      either_numbered NotEight (leb x.k rows) (fitting x.k (listings_of x.terms ls) a b c) (refused 9 0)
      (either_numbered NotEight (room_for (length (starts max_docid (listings_of x.terms ls))) a b c) _ (refused 9 0) tt (λ e. omega arith))
      (λ e. omega arith)))

  -- a search that begins: its query and its shelf's walk are without fault
  record Begun (y : Sought) : Type 0 where
    question : Question
    faultless : asked q ≡ done question
    lists : List Listing
    walked : walk s ≡ done lists
    same : y ≡ record { k = question.k; lists = lists_for question lists }
    room : room_for (interval_count question lists) a b c ≡ true

  begun : (y : Sought) → sought q s rows a b c ≡ done y → Begun y
  begun y e = by-query (asked q) refl e
    where
      by-room : (x : Question) (ls : List Listing) → asked q ≡ done x → walk s ≡ done ls
          → cond (leb x.k rows) (fitting x.k (lists_for x ls) a b c) (refused 9 0) ≡ done y → Begun y
      by-room x ls f w g =
          split (leb x.k rows)
          (λ h. split (room_for (interval_count x ls) a b c)
          (λ r. let z : done (record { k = x.k; lists = lists_for x ls }) ≡ done y = rw (h, r) at g in
          record { question = x; faultless = f; lists = ls; walked = w; same = cc; room = r })
          (λ r. let z : refused 9 0 ≡ done y = rw (h, r) at g in let no_way : ◌≡◌ {A = ℕ} 0 1 = cc in absurd (omega arith)))
          (λ h. let z : refused 9 0 ≡ done y = rw h at g in let no_way : ◌≡◌ {A = ℕ} 0 1 = cc in absurd (omega arith))

      by-walk : (x : Question) → asked q ≡ done x → (o : Outcome (List Listing)) → walk s ≡ o
          → and_then o (λ ls. cond (leb x.k rows) (fitting x.k (lists_for x ls) a b c) (refused 9 0)) ≡ done y → Begun y
      by-walk x f (refused n o) w g = let no_way : ◌≡◌ {A = ℕ} 0 1 = cc in absurd (omega arith)
      by-walk x f (done ls) w g = by-room x ls f w g

      by-query : (o : Outcome Question) → asked q ≡ o
          → and_then o (λ x. and_then (walk s) (λ ls. cond (leb x.k rows) (fitting x.k (lists_for x ls) a b c) (refused 9 0))) ≡ done y → Begun y
      by-query (refused n o) f g = let no_way : ◌≡◌ {A = ℕ} 0 1 = cc in absurd (omega arith)
      by-query (done x) f g = by-walk x f (walk s) refl g

-- ---- the two cases

module _ (q s : List ℕ) (rows : ℕ) (fs cs ms : List ℕ) where
  -- "A refusal changes no output": "Counts in a refusal are 0 and outputs are untouched"
  pub untouched : (n at : ℕ) → (searched q s rows fs cs ms).outcome ≡ refused n at → (n ≡ 8 → ⊥)
      → searched q s rows fs cs ms ≡ record { outcome = refused n at; intervals = 0; opened = 0; blocks = 0; firsts = fs; ceilings = cs; marks = ms }
  unfolding searched
  untouched n at e h = go (sought q s rows (length fs) (length cs) (length ms)) e
    where
      go : (o : Outcome Sought) → (answer o fs cs ms).outcome ≡ refused n at → answer o fs cs ms ≡ record { outcome = refused n at; intervals = 0; opened = 0; blocks = 0; firsts = fs; ceilings = cs; marks = ms }
      go (refused m p) f = let x : m ≡ n = cc in let y : p ≡ at = cc in rw (x, y)
      go (done y) f = absurd (h (rw f at (eight_from y.k [] (spans any_list never max_docid y.lists))))

  -- a search for what an accepted query asks
  module _ (x : Question) (ls : List Listing) (f : asked q ≡ done x) (w : walk s ≡ done ls) where
    abbrev given : Answer
    given = answer (done (record { k = x.k; lists = lists_for x ls })) fs cs ms

    abbrev searching : Searching q s fs cs ms given
    searching = record {
      question = x;
      faultless = f;
      lists = ls;
      walked = w;
      intervals = refl;
      firsts = refl;
      ceilings = refl;
      row = book any_list never max_docid x.k (lists_for x ls);
      one_each = book-long x.k (lists_for x ls);
      marks = refl;
    }

    by_the_rule : Goes x.k [] (met_on (lists_for x ls)) (book any_list never max_docid x.k (lists_for x ls)) (pruned any_list never max_docid x.k (lists_for x ls))
    by_the_rule = let a = (accepted q x f).1 in goes (lists_for x ls) x.k (judging.faultless (length q) x a.clear).k_low

    stopping : (at : ℕ) → given.outcome ≡ refused 8 at → Stopping q s fs cs ms at given
    stopping at e =
        let p : StopsFrom x.k [] at (met_on (lists_for x ls)) (book any_list never max_docid x.k (lists_for x ls)) = rw e at by_the_rule in
        record {
          search = searching;
          stopped = record { before = p.before; past = p.past; shows = p.shows; passed = p.passed; here = p.here; named = p.named };
          opened = rw e;
          blocks = rw e;
        }

    ending : (hs : List Hit) → given.outcome ≡ done hs → Ending q s fs cs ms hs given
    ending hs e =
        let p : EndsFrom x.k [] hs (met_on (lists_for x ls)) (book any_list never max_docid x.k (lists_for x ls)) = rw e at by_the_rule in
        record {
          search = searching;
          passed = p.passed;
          hits = p.hits ∙ best-ranking x.k (found (book any_list never max_docid x.k (lists_for x ls)) (met_on (lists_for x ls)).sheets);
          opened = rw e;
          blocks = rw e;
        }

    -- "nor is any other output past its end"
    filled-past : room_for (interval_count x ls) (length fs) (length cs) (length ms) ≡ true
        → Past given.intervals fs given.firsts × Past given.intervals cs given.ceilings × Past given.intervals ms given.marks
    filled-past r =
        let n = interval_count x ls in
        let first = and-true (leb n (length fs)) (leb n (length cs) && leb n (length ms)) r in
        let others = and-true (leb n (length cs)) (leb n (length ms)) first.1 in (
          front-past n (starts max_docid (lists_for x ls)) fs refl (leb-true n (length fs) first.0),
          front-past n (met_on (lists_for x ls)).ceilings cs (length-map (starts max_docid (lists_for x ls)) (ceiling_at (lists_for x ls))) (leb-true n (length cs) others.0),
          front-past n (book any_list never max_docid x.k (lists_for x ls)) ms (book-long x.k (lists_for x ls)) (leb-true n (length ms) others.1),
        )

  abbrev sought_here : Outcome Sought
  sought_here = sought q s rows (length fs) (length cs) (length ms)

  -- what is known of every search that begins
  begins_so : (P : Answer → Type 0) (y : Sought) → sought_here ≡ done y
      → ((x : Question) (ls : List Listing) → asked q ≡ done x → walk s ≡ done ls → room_for (interval_count x ls) (length fs) (length cs) (length ms) ≡ true → P (answer (done (record { k = x.k; lists = lists_for x ls })) fs cs ms))
      → P (answer (done y) fs cs ms)
  begins_so P y g h =
      let w = begun q s rows (length fs) (length cs) (length ms) y g in
      subst (λ (z : Sought). P (answer (done z) fs cs ms)) (sym w.same) (h w.question w.lists w.faultless w.walked w.room)

  -- "except a bad block met during a search, where the interval book shows how far the search came"
  pub stopped-book : (at : ℕ) → (searched q s rows fs cs ms).outcome ≡ refused 8 at → Stopping q s fs cs ms at (searched q s rows fs cs ms)
  unfolding searched
  stopped-book at e = go sought_here refl (sought-numbered q s rows (length fs) (length cs) (length ms)) e
    where
      go : (o : Outcome Sought) → sought_here ≡ o → Numbered NotEight o → (answer o fs cs ms).outcome ≡ refused 8 at → Stopping q s fs cs ms at (answer o fs cs ms)
      go (refused m p) g h f = absurd (h (cc))
      go (done y) g h f = begins_so (λ z. z.outcome ≡ refused 8 at → Stopping q s fs cs ms at z) y g (λ x ls a w r. stopping x ls a w at) f

  pub ended-book : (hs : List Hit) → (searched q s rows fs cs ms).outcome ≡ done hs → Ending q s fs cs ms hs (searched q s rows fs cs ms)
  unfolding searched
  ended-book hs e = go sought_here refl e
    where
      go : (o : Outcome Sought) → sought_here ≡ o → (answer o fs cs ms).outcome ≡ done hs → Ending q s fs cs ms hs (answer o fs cs ms)
      go (refused m p) g f = let z : ◌≡◌ {A = ℕ} 0 1 = cc in absurd (omega arith)
      go (done y) g f = begins_so (λ z. z.outcome ≡ done hs → Ending q s fs cs ms hs z) y g (λ x ls a w r. ending x ls a w hs) f

  abbrev Kept : Answer → Type 0
  Kept a = Past a.intervals fs a.firsts × Past a.intervals cs a.ceilings × Past a.intervals ms a.marks

  pub book-past : (a : Answer) → searched q s rows fs cs ms ≡ a → Kept a
  unfolding searched
  book-past a e = subst Kept e (go sought_here refl)
    where
      go : (o : Outcome Sought) → sought_here ≡ o → Kept (answer o fs cs ms)
      go (refused m p) g = (record { long = refl; past = refl }, record { long = refl; past = refl }, record { long = refl; past = refl })
      go (done y) g = begins_so Kept y g filled-past
