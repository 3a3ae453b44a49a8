-- "Each public function's contract determines its return and the final content of every lent run": those contracts of reading, writing and searching, and
-- of what a program says, that are no equation allow one outcome only, for what is returned and for each run that was lent. Assumes nothing.
use Prim.Native.Nat.{ℕ, ◌+◌, ◌-◌, ◌≤◌, ◌<◌}
use mathlib.Core.Path.{◌≡◌, refl, sym, ap, ◌∙◌}
use mathlib.Core.Option.{none, some}
use Rattle.std.specs.Prelude.{Option, Some, None, Result, Ok, Err}
use Rattle.std.specs.Borrow.{Bor, MutBor}
use Rattle.std.specs.Fn.{Once}
use Rattle.std.specs.Option.{is_some}
use mathlib.Core.Bool.{Bool, true, false}
use mathlib.Core.List.{List, [], ◌∷◌, ◌++◌}
use native.Mathlib.Omega.{arith}
use lib.Dec.{ltb}
use lib.ListN.{length, get_or, take, drop, length-take, length-drop}
use lib.Seq.{ext_get_or}
use borrow.Author.Tests.{ltb-true, ltb-false}
use Rattle.model.specs.Limits.{max_k, max_terms, max_docid}
use Rattle.model.specs.Outcome.{Outcome, refused, done}
use Rattle.model.specs.Post.{Post, post, postings}
use Rattle.model.specs.Refusal.{number, refusal, outcome_of}
use Rattle.model.specs.Runs.{Holds}
use Rattle.model.specs.declared.refusal.Fault.{Fault}
use Rattle.model.specs.declared.refusal.Fault.TheVariants as fault
use Rattle.model.specs.declared.refusal.Refusal.{Refusal}
use Rattle.model.proofs.Lists.{split}
use Rattle.block.specs.declared.summary.Summary.{Summary}
use Rattle.shelf.specs.Walk.{Block}
use Rattle.shelf.specs.Blocks.{blocks_left, Finds, Steps}
use Rattle.shelf.specs.declared.blocks.Reading.{Reading}
use Rattle.shelf.specs.declared.blocks.BlockAt.{BlockAt}
use Rattle.shelf.specs.declared.walk.Place.{Place}
use Rattle.shelf.specs.declared.walk.Walk.{Walk}
use Rattle.shelf.specs.Step as step
use Rattle.shelf.specs.Step.{WalkStep}
use Rattle.shelf.specs.Cursor.{Walks}
use Rattle.lookup.specs.Gather.{Finds as FindsLists}
use Rattle.lookup.specs.Show.{Span, summary_shown, body_shown, Shown, ShownOf}
use Rattle.lookup.proofs.Shows.{summary_own, body_own}
use Rattle.lookup.specs.declared.gather.Found.{Found}
use Rattle.lent.specs.View.{IsPart, Shows, span_in, PartIn, BodyOf}
use Rattle.lent.proofs.Parts.{shows_own}
use Rattle.lent.specs.declared.view.BodyPart.{BodyPart}
use Rattle.list.specs.Answer.{Gives}
use Rattle.list.specs.Read.{Reads}
use Rattle.query.specs.Query.{Question}
use Rattle.query.specs.Answers.{Tells}
use Rattle.query.specs.declared.read.Query.{Query}
use Rattle.rank.specs.Rank.{Hit, keep}
use Rattle.rank.specs.Keep.{kept_of, kept_on, keeper, KeepsIn}
use Rattle.rank.specs.declared.keep.Kept.{Kept}
use Rattle.rank.proofs.Keepings.{kept_on_lem}
use Rattle.scan.specs.Run.{Ran, Searched}
use Rattle.scan.specs.declared.head.Head.{Head}
use Rattle.scan.specs.declared.run.After.{After}
use Rattle.opening.specs.Meet.{Reaches, met_at, AllMoved}
use Rattle.opening.specs.Enter.{told}
use Rattle.opening.specs.Turn.{Opens}
use Rattle.opening.specs.declared.turn.Turn.{Turn}
use Rattle.intervals.specs.Run.{Ended, Halted, Runs}
use Rattle.intervals.specs.Blocks.{room_for, Over, Books}
use Rattle.intervals.specs.declared.run.Run.{Run}
use Rattle.intervals.specs.declared.blocks.Booked.{Booked}
use Rattle.prune.specs.Cut.{starts}
use Rattle.opening.specs.Table.{block_in, lists_in}
use Rattle.exhaustive.specs.Exhaustive.{Answers as Ranks}
use Rattle.pruned.specs.Pruned.{Answer, BookIs, Answers}
use Rattle.pruned.specs.declared.search.Pruned.{Pruned}
use Rattle.intervals.specs.declared.stopped.Stopped.{Stopped}
use Rattle.lines.specs.Said.{Words, words_of, roomy, Says, Speaks, Responds_in, Responds}
use Rattle.lines.specs.declared.said.Said.{Said}

-- what cannot be
never : {C : Type 0} → ◌≡◌ {A = ℕ} 0 1 → C
never e = absurd (omega (arith, e))

some-none : {C : Type 0} (a : ℕ) → some a ≡ none → C
some-none a e = never (cc)

apart : {C A : Type 0} {n at : ℕ} {x : A} → refused n at ≡ done x → C
apart e = never (cc)

-- ---- a refusal, which a contract gives by its number and offset

named : ℕ → Fault
named n =
    get_or (
    fault.QueryField ∷ fault.HitCount ∷ fault.TermCount ∷ fault.Weight ∷ fault.RepeatedTerm ∷ fault.ShelfField ∷ fault.Summary ∷ fault.Body ∷ fault.Room ∷ fault.Posting
    ∷ fault.Size ∷ fault.Absent ∷ fault.Input ∷ []
    ) (n - 1) fault.QueryField

named_back : (f : Fault) → named (number f) ≡ f
unfolding named
named_back fault.QueryField = refl
named_back fault.HitCount = refl
named_back fault.TermCount = refl
named_back fault.Weight = refl
named_back fault.RepeatedTerm = refl
named_back fault.ShelfField = refl
named_back fault.Summary = refl
named_back fault.Body = refl
named_back fault.Room = refl
named_back fault.Posting = refl
named_back fault.Size = refl
named_back fault.Absent = refl
named_back fault.Input = refl

-- no two faults have one number
fault-one : (f g : Fault) → number f ≡ number g → f ≡ g
fault-one f g e = sym (named_back f) ∙ ap named e ∙ named_back g

refusal-one : (r q : Refusal) → number r.fault ≡ number q.fault → r.offset ≡ q.offset → r ≡ q
refusal-one r q n o = let f = fault-one r.fault q.fault n in λ i. record { fault = f i; offset = o i }

refused-one : {A : Type 0} (r q : Refusal) → ◌≡◌ {A = Outcome A} (refused (number r.fault) r.offset) (refused (number q.fault) q.offset) → r ≡ q
refused-one r q e = refusal-one r q (cc) (cc)

-- an answer of which the paper's outcome is known: so `shelf::check::check`, `lookup::find::find_list`, `query::fields::count_fields` and others tell theirs
pub outcome-one : {A : Type 0} (r q : Result A Refusal) → outcome_of r ≡ outcome_of q → r ≡ q
outcome-one (Ok x) (Ok y) e = let z : x ≡ y = cc in ap Ok z
outcome-one (Ok x) (Err q) e = apart (sym e)
outcome-one (Err r) (Ok y) e = apart e
outcome-one {A = A} (Err r) (Err q) e = ap Err (refused-one {A = A} r q e)

-- ---- `shelf::blocks::Reading::next`

found-end : (s : List ℕ) (r : Reading) (b : Block) (v e : ℕ) (next : Reading) → Finds s r b v e next → e ≡ b.body_at + 3 + length b.body
found-end s r b v e next f =
    let n : length b.body ≡ e - v = ap length f.body ∙ omega (arith, length-take (e - v) (drop v s), length-drop v s, f.order, f.inside) in
    omega (arith, f.tag, f.order)

pub next_one : (s : List ℕ) (x : Reading) (r q : Option BlockAt) (next next' : Reading) → Steps s x r next → Steps s x q next' → (r ≡ q) × (next ≡ next')
next_one s x (Some m) (Some m') next next' (b, n, f) (b', n', f') =
    let l : b ∷ blocks_left s next ≡ b' ∷ blocks_left s next' = sym f.left ∙ f'.left in
    let same : b ≡ b' = cc in
    let sums : m.summary ≡ m'.summary = sym n ∙ ap {B = Summary} (λ y. y.sum) same ∙ n' in
    let froms : m.start ≡ m'.start = sym f.tag ∙ ap {B = ℕ} (λ y. y.body_at + 3) same ∙ f'.tag in
    let ends : m.end ≡ m'.end = found-end s x b m.start m.end next f ∙ ap {B = ℕ} (λ y. y.body_at + 3 + length y.body) same ∙ sym (found-end s x b' m'.start m'.end next' f') in
    let ons : next ≡ next' = f.onward ∙ rw ends (sym f'.onward) in
    (λ i. Some (record { summary = sums i; start = froms i; end = ends i }), ons)
next_one s x (Some m) None next next' (b, n, f) z = absurd (omega (arith, f.fewer, z.1))
next_one s x None (Some m) next next' z (b, n, f) = absurd (omega (arith, f.fewer, z.1))
next_one s x None None next next' y z = (refl, y.2 ∙ sym z.2)

-- ---- `shelf::walk::Walk::next`

pub walk-one : (found : WalkStep) (w : Walk) (r q : Result (Option Place) Refusal) (next next' : Walk) → Walks found w r next → Walks found w q next' → (r ≡ q) × (next ≡ next')
walk-one found w (Ok (Some x)) (Ok (Some y)) next next' a b =
    let e : step.List x next ≡ step.List y next' = sym a ∙ b in
    let places : x ≡ y = cc in
    (ap (λ (p : Place). Ok (Some p)) places, cc)
walk-one found w (Ok (Some x)) (Ok None) next next' a (b, m) = never (cc)
walk-one found w (Ok (Some x)) (Err q) next next' a (b, m) = never (cc)
walk-one found w (Ok None) (Ok (Some y)) next next' (a, n) b = never (cc)
walk-one found w (Ok None) (Ok None) next next' (a, n) (b, m) = (refl, n ∙ sym m)
walk-one found w (Ok None) (Err q) next next' (a, n) (b, m) = never (cc)
walk-one found w (Err r) (Ok (Some y)) next next' (a, n) b = never (cc)
walk-one found w (Err r) (Ok None) next next' (a, n) (b, m) = never (cc)
walk-one found w (Err r) (Err q) next next' (a, n) (b, m) =
    let e : step.Fault (number r.fault) r.offset ≡ step.Fault (number q.fault) q.offset = sym a ∙ b in
    (ap Err (refusal-one r q (cc) (cc)), n ∙ sym m)

-- ---- `rank::keep::offer_in`

pub offer_one : (k n d s : ℕ) (ds ss : List ℕ) (r : ℕ) (ds' ss' : List ℕ) (q : ℕ) (ds'' ss'' : List ℕ) → k ≤ max_k
    → KeepsIn k n d s ds ss r ds' ss' → KeepsIn k n d s ds ss q ds'' ss'' → (r ≡ q) × (ds' ≡ ds'') × (ss' ≡ ss'')
offer_one k n d s ds ss r ds' ss' q ds'' ss'' m a b =
    let e : whole r ds' ss' ≡ whole q ds'' ss'' = by r ds' ss' a ∙ sym (by q ds'' ss'' b) in
    (ap {B = ℕ} (λ t. t.n) e, ap {B = List ℕ} (λ t. t.docids) e, ap {B = List ℕ} (λ t. t.scores) e)
  where
    whole : ℕ → List ℕ → List ℕ → Kept
    whole n ds ss = record { docids = ds; scores = ss; n = n }

    by : (r : ℕ) (ds' ss' : List ℕ) → KeepsIn k n d s ds ss r ds' ss' → whole r ds' ss' ≡ kept_on (whole n ds ss) (keep k (take n (postings ds ss)) (post d s))
    by r ds' ss' w =
        kept_on_lem (whole n ds ss) ds' ss' r (w.docids ∙ sym w.scores) (omega (arith, w.most, w.docids)) w.docids-past w.scores-past
        ∙ ap (kept_on (whole n ds ss)) w.kept

-- ---- `scan::run::run` and `interval`

after_one : (r q : After) → r.kept ≡ q.kept → r.heads ≡ q.heads → r ≡ q
after_one r q a b = λ i. record { kept = a i; heads = b i }

pub run-one : (ds ss : List ℕ) (heads : List Head) (last k : ℕ) (t : Kept) (r q : After) → Ran ds ss heads last k t r → Ran ds ss heads last k t q → r ≡ q
run-one ds ss heads last k t r q a b = after_one r q (a.rows ∙ ap (kept_on t) (a.kept ∙ sym b.kept) ∙ sym b.rows) (a.moved ∙ sym b.moved)

pub interval-one : (ds ss : List ℕ) (heads : List Head) (first last k : ℕ) (t : Kept) (r q : After) → Searched ds ss heads first last k t r → Searched ds ss heads first last k t q → r ≡ q
interval-one ds ss heads first last k t r q a b = after_one r q (a.rows ∙ ap (kept_on t) (a.kept ∙ sym b.kept) ∙ sym b.rows) (a.moved ∙ sym b.moved)

-- ---- `opening::meet::meet_all`

reach-one : (his : List ℕ) (from end d r q : ℕ) → Reaches his from end d r → Reaches his from end d q → r ≡ q
reach-one his from end d r q a b =
    split (ltb r q)
    (λ x. let l : r < q = ltb-true r q x in absurd (omega (arith, a.ends (omega (arith, b.upto)), b.below r a.on l)))
    (λ x. split (ltb q r)
    (λ y. let l : q < r = ltb-true q r y in absurd (omega (arith, b.ends (omega (arith, a.upto)), a.below q b.on l)))
    (λ y. omega (arith, ltb-false r q x, ltb-false q r y)))

pub meet_one : (los his ends ats ats' mets' ats'' mets'' : List ℕ) (d : ℕ) → AllMoved los his ends ats ats' mets' d → AllMoved los his ends ats ats'' mets'' d → (ats' ≡ ats'') × (mets' ≡ mets'')
meet_one los his ends ats ats' mets' ats'' mets'' d a b = (
  ext_get_or 0 ats' ats'' (a.places ∙ sym b.places) (λ t l. at t (omega (arith, a.places))),
  ext_get_or 0 mets' mets'' (a.blocks ∙ sym b.blocks)
      (λ t l. let m : t < max_terms = omega (arith, a.blocks) in (a.each t m).met ∙ ap (met_at los (get_or ends t 0) d) (at t m) ∙ sym (b.each t m).met),
)
  where
    at : (t : ℕ) → t < max_terms → get_or ats' t 0 ≡ get_or ats'' t 0
    at t l = reach-one his (get_or ats t 0) (get_or ends t 0) d (get_or ats' t 0) (get_or ats'' t 0) (a.each t l).reached (b.each t l).reached

-- ---- `opening::turn::open`

told_one : (r q : Option ℕ) → told r ≡ told q → r ≡ q
told_one (Some a) (Some b) e = let z : a ≡ b = cc in ap Some z
told_one (Some a) None e = some-none a e
told_one None (Some b) e = some-none b (sym e)
told_one None None e = refl

module _ (s los his tops counts bodies weights was mets : List ℕ) (heads : List Head) (ds ss ds' ss' ds'' ss'' : List ℕ) (first last k : ℕ) (kept : Kept) (r q : Turn)
    (a : Opens s los his tops counts bodies weights was mets heads ds ss ds' ss' first last k kept r) (b : Opens s los his tops counts bodies weights was mets heads ds ss ds'' ss'' first last k kept q) where
  wrongs : r.wrong ≡ q.wrong
  wrongs = told_one r.wrong q.wrong (a.wrong ∙ sym b.wrong)

  same-docs : ds' ≡ ds''
  same-docs = a.docids ∙ sym b.docids

  same-scores : ss' ≡ ss''
  same-scores = a.scored ∙ sym b.scored

  rest : (r.kept ≡ q.kept) × (r.heads ≡ q.heads)
  rest = go r.wrong refl
    where
      go : (x : Option ℕ) → r.wrong ≡ x → (r.kept ≡ q.kept) × (r.heads ≡ q.heads)
      go (Some at) e =
          let f = a.stopped at e in
          let g = b.stopped at (sym wrongs ∙ e) in
          (f.0 ∙ sym g.0, f.1 ∙ sym g.1)
      go None e =
          let f : told r.wrong ≡ none = rw e in
          let g : told q.wrong ≡ none = ap told (sym wrongs) ∙ f in
          (a.rows f ∙ ap (kept_on kept) (a.hits f ∙ sym (b.hits g)) ∙ sym (b.rows g), a.moved f ∙ rw (same-docs, same-scores) (sym (b.moved g)))

  pub open-one : (r ≡ q) × (ds' ≡ ds'') × (ss' ≡ ss'')
  open-one = (λ i. record { heads = rest.1 i; kept = rest.0 i; fresh = (a.fresh ∙ sym b.fresh) i; wrong = wrongs i }, same-docs, same-scores)

-- ---- `intervals::blocks::over_blocks`

-- a keeper of the hits
keeper-one : (t w : Kept) → done (kept_of t) ≡ done (kept_of w) → t ≡ keeper (kept_of t) → w ≡ keeper (kept_of w) → t ≡ w
keeper-one t w e f g = let h : kept_of t ≡ kept_of w = cc in f ∙ ap keeper h ∙ sym g

module _ (s ends los his tops counts bodies weights : List ℕ) (k : ℕ) (firsts ms ms' ms'' : List ℕ) where
  ended-one : (r q : Run) → Ended s ends los his tops counts bodies weights k firsts ms ms' r → Ended s ends los his tops counts bodies weights k firsts ms ms'' q → (r ≡ q) × (ms' ≡ ms'')
  ended-one r q a b =
      let kept = keeper-one r.kept q.kept (a.found ∙ sym b.found) a.whole b.whole in
      (λ i. record { kept = kept i; opened = (a.opened ∙ sym b.opened) i }, a.marked ∙ sym b.marked)

  halted-one : (at to : ℕ) → Halted s ends los his tops counts bodies weights k firsts ms ms' at → Halted s ends los his tops counts bodies weights k firsts ms ms'' to → (at ≡ to) × (ms' ≡ ms'')
  halted-one at to a b = let z : refused 8 at ≡ refused 8 to = a.found ∙ sym b.found in (cc, a.marked ∙ sym b.marked)

  run_is : (r q : Result Run ℕ) → Runs s ends los his tops counts bodies weights k firsts ms ms' r → Runs s ends los his tops counts bodies weights k firsts ms ms'' q → (r ≡ q) × (ms' ≡ ms'')
  run_is (Ok r) (Ok q) a b = let e = ended-one r q a b in (ap Ok e.0, e.1)
  run_is (Ok r) (Err to) a b = apart (b.found ∙ sym a.found)
  run_is (Err at) (Ok q) a b = apart (a.found ∙ sym b.found)
  run_is (Err at) (Err to) a b = let e = halted-one at to a b in (ap Err e.0, e.1)

  over_one : (r q : Result Booked Stopped) → Over s ends los his tops counts bodies weights k firsts ms ms' r → Over s ends los his tops counts bodies weights k firsts ms ms'' q → (r ≡ q) × (ms' ≡ ms'')
  over_one (Ok r) (Ok q) (n, a) (m, b) = let e = ended-one r.run q.run a b in (λ i. Ok (record { intervals = (n ∙ sym m) i; run = e.0 i }), e.1)
  over_one (Ok r) (Err q) (n, a) (to, m, b) = apart (b.found ∙ sym a.found)
  over_one (Err r) (Ok q) (at, n, a) (m, b) = apart (a.found ∙ sym b.found)
  over_one (Err r) (Err q) (at, n, a) (to, m, b) =
      let e = halted-one at to a b in
      (ap Err (n ∙ ap {B = Stopped} (λ (x : ℕ). record { refusal = refusal fault.Body x; intervals = length firsts }) e.0 ∙ sym m), e.1)

module _ (s ends los his tops counts bodies weights : List ℕ) (k : ℕ) (fs cs ms fs' cs' ms' fs'' cs'' ms'' : List ℕ) (r q : Result Booked Stopped)
    (a : Books s ends los his tops counts bodies weights k fs cs ms fs' cs' ms' r) (b : Books s ends los his tops counts bodies weights k fs cs ms fs'' cs'' ms'' q) where
  pub book-one : (r ≡ q) × (fs' ≡ fs'') × (cs' ≡ cs'') × (ms' ≡ ms'')
  book-one =
      split (room_for (length (starts max_docid (lists_in (block_in s los his tops counts bodies) ends weights))) (length fs) (length cs) (length ms))
      (λ x. let f = a.filled x in
      let g = b.filled x in
      let u = over_one s ends los his tops counts bodies weights k (starts max_docid (lists_in (block_in s los his tops counts bodies) ends weights)) ms ms' ms'' r q f.run g.run in
      (u.0, f.firsts ∙ sym g.firsts, f.ceilings ∙ sym g.ceilings, u.1))
      (λ x. let f = a.refused x in
      let g = b.refused x in
      (f.refused ∙ sym g.refused, f.firsts ∙ sym g.firsts, f.ceilings ∙ sym g.ceilings, f.marks ∙ sym g.marks))

-- ---- `query::read::read_query`

pub asked-one : (o : Outcome Question) (r q : Result Query Refusal) → Tells o r → Tells o q → r ≡ q
asked-one o (Ok r) (Ok q) (x, e, a) (y, f, b) =
    let z : done x ≡ done y = sym e ∙ f in
    let same : x ≡ y = cc in
    let n : r.n ≡ q.n = a.terms.count ∙ rw same (sym b.terms.count) in
    let k : r.k ≡ q.k = a.k ∙ rw same (sym b.k) in
    let t : r.terms ≡ q.terms = a.terms.whole ∙ rw (same, n) (sym b.terms.whole) in
    let w : r.weights ≡ q.weights = a.weights.whole ∙ rw (same, n) (sym b.weights.whole) in
    λ i. Ok (record { k = k i; n = n i; terms = t i; weights = w i })
asked-one o (Ok r) (Err q) (x, e, a) f = apart (sym f ∙ e)
asked-one o (Err r) (Ok q) e (y, f, b) = apart (sym e ∙ f)
asked-one o (Err r) (Err q) e f = ap Err (refused-one r q (sym e ∙ f))

-- ---- `lookup::gather::find_terms`

pub lists-one : (s terms : List ℕ) (n : ℕ) (r q : Result Found Refusal) → FindsLists s terms n r → FindsLists s terms n q → r ≡ q
lists-one s terms n (Ok r) (Ok q) (ls, e, a) (ms, f, b) =
    let z : done ls ≡ done ms = sym e ∙ f in
    let same : ls ≡ ms = cc in
    let at : r.ats ≡ q.ats = a.ats ∙ rw same (sym b.ats) in
    let count : r.counts ≡ q.counts = a.counts ∙ rw same (sym b.counts) in
    λ i. Ok (record { ats = at i; counts = count i })
lists-one s terms n (Ok r) (Err q) (ls, e, a) f = apart (sym f ∙ e)
lists-one s terms n (Err r) (Ok q) e (ms, f, b) = apart (sym e ∙ f)
lists-one s terms n (Err r) (Err q) e f = ap Err (refused-one r q (sym e ∙ f))

-- ---- a list shown in place: `lookup::find::{summary_shown, body_shown}`, `lent::view::{summary, body}`

-- a part of a slice: the same bytes of the same memory
part-one : (s : Bor (List ℕ)) (p : Span) (r q : Bor (List ℕ)) → IsPart s p r → IsPart s p q → r ≡ q
part-one s p r q a b = λ i. record { ref_ptr = ((a.block ∙ sym b.block) i, (a.place ∙ sym b.place) i); now = (a.bytes ∙ sym b.bytes) i }

body_same : {E : Type 0} (s : Bor (List ℕ)) (r q : Result BodyPart E) → span_in r ≡ span_in q → PartIn s r → PartIn s q → r ≡ q
body_same s (Ok r) (Ok q) e a b =
    let at : r.at ≡ q.at = cc in
    let bytes : r.bytes ≡ q.bytes = part-one s q.at r.bytes q.bytes (rw at at a) b in
    λ i. Ok (record { bytes = bytes i; at = at i })
body_same s (Ok r) (Err q) e a b = never (cc)
body_same s (Err r) (Ok q) e a b = never (cc)
body_same s (Err r) (Err q) e a b = let z : r ≡ q = cc in ap Err z

-- for a caller's own error, where of a refusal one error is made
module _ {E : Type 0} (gives : Refusal → E → Type 0) (one : (r : Refusal) (x y : E) → gives r x → gives r y → x ≡ y) where
  shown_same : {A : Type 0} (o : Outcome A) (r q : Result A E) → Shown gives o r → Shown gives o q → r ≡ q
  shown_same o (Ok x) (Ok y) e f =
      let z : done x ≡ done y = sym e ∙ f in
      let same : x ≡ y = cc in ap Ok same
  shown_same o (Ok x) (Err y) e (t, f, k) = apart (sym f ∙ e)
  shown_same o (Err x) (Ok y) (t, e, h) f = apart (sym e ∙ f)
  shown_same {A = A} o (Err x) (Err y) (t, e, h) (u, f, k) =
      let same : t ≡ u = refused-one {A = A} t u (sym e ∙ f) in ap Err (one u x y (rw same at h) k)

  pub shown_one : {A : Type 0} (place : Result Place E) (of : Place → Outcome A) (r q : Result A E) → ShownOf gives place of r → ShownOf gives place of q → r ≡ q
  shown_one (Ok p) of r q a b = shown_same (of p) r q a b
  shown_one (Err e) of r q a b = a ∙ sym b

  pub body_one : (s : Bor (List ℕ)) (place : Result Place E) (j : ℕ) (r q : Result BodyPart E) → BodyOf gives s place j r → BodyOf gives s place j q → r ≡ q
  body_one s place j r q a b = body_same s r q (shown_one place (λ p. body_shown s.now (done p) j) (span_in r) (span_in q) a.span b.span) a.part b.part

-- where the error is a refusal, by the outcome
abbrev Itself : Refusal → Refusal → Type 0
Itself r y = y ≡ r

pub summary_one : (s : List ℕ) (place : Result Place Refusal) (j : ℕ) (r q : Result Summary Refusal) → ShownOf Itself place (λ p. summary_shown s (done p) j) r
    → ShownOf Itself place (λ p. summary_shown s (done p) j) q → r ≡ q
summary_one s place j r q a b = outcome-one r q (summary_own s place j r a ∙ sym (summary_own s place j q b))

pub span_one : (s : List ℕ) (place : Result Place Refusal) (j : ℕ) (r q : Result Span Refusal) → ShownOf Itself place (λ p. body_shown s (done p) j) r
    → ShownOf Itself place (λ p. body_shown s (done p) j) q → r ≡ q
span_one s place j r q a b = outcome-one r q (body_own s place j r a ∙ sym (body_own s place j q b))

pub shows_one : (s : Bor (List ℕ)) (o : Outcome Span) (r q : Result BodyPart Refusal) → Shows s o r → Shows s o q → r ≡ q
shows_one s o (Ok r) (Ok q) (e, a) (f, b) =
    let z : done r.at ≡ done q.at = sym e ∙ f in
    let at : r.at ≡ q.at = cc in body_same {E = Refusal} s (Ok r) (Ok q) (ap Ok at) a b
shows_one s o (Ok r) (Err q) (e, a) f = apart (sym f ∙ e)
shows_one s o (Err r) (Ok q) e (f, b) = apart (sym e ∙ f)
shows_one s o (Err r) (Err q) e f = ap Err (refused-one {A = Span} r q (sym e ∙ f))

pub body_own_one : (s : Bor (List ℕ)) (place : Result Place Refusal) (j : ℕ) (r q : Result BodyPart Refusal) → BodyOf Itself s place j r → BodyOf Itself s place j q → r ≡ q
body_own_one s place j r q a b = shows_one s (body_shown s.now (outcome_of place) j) r q (shows_own s place j r a) (shows_own s place j q b)

-- ---- what fills lent runs: the writer, the edits and the converter; the reader

pub gives_one : (o : Outcome (List ℕ)) (old new new' : List ℕ) (r q : Result ℕ Refusal) → Gives o old new r → Gives o old new' q → (r ≡ q) × (new ≡ new')
gives_one o old new new' r q a b = (outcome-one r q (a.answers ∙ sym b.answers), a.holds ∙ sym b.holds)

pub reads_one : (o : Outcome (List Post)) (ds ss ds' ss' ds'' ss'' : List ℕ) (r q : Result ℕ Refusal) → Reads o ds ss ds' ss' r → Reads o ds ss ds'' ss'' q → (r ≡ q) × (ds' ≡ ds'') × (ss' ≡ ss'')
reads_one o ds ss ds' ss' ds'' ss'' r q a b = (outcome-one r q (a.docids.answers ∙ sym b.docids.answers), a.docids.holds ∙ sym b.docids.holds, a.scored.holds ∙ sym b.scored.holds)

-- ---- the two rankers

-- `exhaustive::all::rank_all`
pub rank-one : (o : Outcome (List Hit)) (r q : Result Kept Refusal) → Ranks o r → Ranks o q → r ≡ q
rank-one o (Ok r) (Ok q) a b = ap Ok (keeper-one r q (a.answer ∙ sym b.answer) a.whole b.whole)
rank-one o (Ok r) (Err q) a e = apart (e ∙ sym a.answer)
rank-one o (Err r) (Ok q) e b = apart (e ∙ sym b.answer)
rank-one o (Err r) (Err q) e f = ap Err (refused-one r q (e ∙ sym f))

-- `pruned::search::search`
book-same : (o : Answer) (n m : ℕ) (fs cs ms fs' cs' ms' : List ℕ) → BookIs o n fs cs ms → BookIs o m fs' cs' ms' → (n ≡ m) × (fs ≡ fs') × (cs ≡ cs') × (ms ≡ ms')
book-same o n m fs cs ms fs' cs' ms' a b = (a.intervals ∙ sym b.intervals, a.firsts ∙ sym b.firsts, a.ceilings ∙ sym b.ceilings, a.marks ∙ sym b.marks)

pub search-one : (o : Answer) (fs cs ms fs' cs' ms' : List ℕ) (r q : Result Pruned Stopped) → Answers o fs cs ms r → Answers o fs' cs' ms' q → (r ≡ q) × (fs ≡ fs') × (cs ≡ cs') × (ms ≡ ms')
search-one o fs cs ms fs' cs' ms' (Ok r) (Ok q) a b =
    let book = book-same o r.intervals q.intervals fs cs ms fs' cs' ms' a.book b.book in
    let kept = keeper-one r.kept q.kept (a.outcome ∙ sym b.outcome) a.whole b.whole in
    (λ i. Ok (record { intervals = book.0 i; opened = (a.opened ∙ sym b.opened) i; blocks = (a.blocks ∙ sym b.blocks) i; kept = kept i }), book.1, book.2, book.3)
search-one o fs cs ms fs' cs' ms' (Ok r) (Err q) a b = apart (b.outcome ∙ sym a.outcome)
search-one o fs cs ms fs' cs' ms' (Err r) (Ok q) a b = apart (a.outcome ∙ sym b.outcome)
search-one o fs cs ms fs' cs' ms' (Err r) (Err q) a b =
    let book = book-same o r.intervals q.intervals fs cs ms fs' cs' ms' a.book b.book in
    let refusal = refused-one r.refusal q.refusal (a.outcome ∙ sym b.outcome) in
    (λ i. Err (record { refusal = refusal i; intervals = book.0 i }), book.1, book.2, book.3)

-- ---- what the programs say

holds_one : (old xs new new' : List ℕ) (n m : ℕ) → Holds old xs new n → Holds old xs new' m → (n ≡ m) × (new ≡ new')
holds_one old xs new new' n m a b = let e : n ≡ m = a.count ∙ sym b.count in (e, a.whole ∙ ap (λ (r : ℕ). xs ++ drop r old) e ∙ sym b.whole)

said_one : (r q : Said) → r.out ≡ q.out → r.err ≡ q.err → r ≡ q
said_one r q o e = λ i. record { out = o i; err = e i }

says_one : (w : Words) (out err out' err' out'' err'' : List ℕ) (r q : Said) → Says w out err out' err' r → Says w out err out'' err'' q → (r ≡ q) × (out' ≡ out'') × (err' ≡ err'')
says_one w out err out' err' out'' err'' r q a b =
    let o = holds_one out w.out out' out'' r.out q.out a.output b.output in
    let e = holds_one err w.err err' err'' r.err q.err a.error b.error in
    (said_one r q o.0 e.0, o.1, e.1)

-- `report::report::respond` and `checking::verdict::respond`
pub speaks_one : (name : List ℕ) (read : Bool) (answer out err out' err' out'' err'' : List ℕ) (r q : Said)
    → Speaks name read answer out err out' err' r → Speaks name read answer out err out'' err'' q → (r ≡ q) × (out' ≡ out'') × (err' ≡ err'')
speaks_one name read answer out err = says_one (words_of (roomy name (length out) (length err)) read name answer) out err

-- `lines::said::respond`, where what answers allows one outcome only: two calls of it with one input, and with runs that hold what `out` does, tell the same
-- number and leave the same
module _ {F : Type 0} (g : Once F (Bor (List ℕ) × (MutBor (List ℕ) × Unit {0})) (ℕ × (MutBor (List ℕ) × Unit {0}))) (f : F) (name out err out' err' out'' err'' : List ℕ) (r q : Said)
    (one : (i : Bor (List ℕ)) (o o' p p' : MutBor (List ℕ)) (n m : ℕ) → o.now ≡ out → p.now ≡ out → g.post f (i, (o, tt)) (n, (o', tt)) → g.post f (i, (p, tt)) (m, (p', tt)) → (n ≡ m) × (o'.now ≡ p'.now)) where
  responds-in : (room : Bool) (input : Option (Bor (List ℕ))) → Responds_in g f room name input out err out' err' r → Responds_in g f room name input out err out'' err'' q
      → (r ≡ q) × (out' ≡ out'') × (err' ≡ err'')
  responds-in false input a b = says_one (words_of false (is_some input) name []) out err out' err' out'' err'' r q a b
  responds-in true None a b = says_one (words_of true false name []) out err out' err' out'' err'' r q a b
  responds-in true (Some i) (a, h) (b, k) =
      let o = one i a.shown a.left b.shown b.left r.out q.out a.shows b.shows a.met b.met in
      let e = holds_one err [] err' err'' r.err q.err h k in
      (said_one r q o.0 e.0, sym a.leaves ∙ o.1 ∙ b.leaves, e.1)

  pub responds_one : (input : Option (Bor (List ℕ))) → Responds g f name input out err out' err' r → Responds g f name input out err out'' err'' q → (r ≡ q) × (out' ≡ out'') × (err' ≡ err'')
  responds_one input = responds-in (roomy name (length out) (length err)) input
