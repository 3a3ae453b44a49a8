-- A ranking fits the rows for which it was asked, and its rows are what is reported. Assumes nothing.
use native.Mathlib.Omega.{arith}
use Prim.Native.Nat.{ℕ, ◌≤◌, min}
use mathlib.Core.Path.{◌≡◌, refl, sym, ap, ◌∙◌}
use mathlib.Core.List.{List, ◌++◌}
use lib.ListN.{length, take, drop, length-take}
use Rattle.std.specs.Prelude.{Result, Ok, Err}
use Rattle.model.specs.Limits.{max_k}
use Rattle.model.specs.Outcome.{Outcome, refused, done}
use Rattle.model.specs.declared.refusal.Refusal.{Refusal}
use Rattle.model.specs.Runs.{Holds}
use Rattle.model.specs.Post.{Post, docs, scores, postings}
use Rattle.model.proofs.Lists.{map-take}
use Rattle.change.proofs.Runnings.{docs-of, scores-of}
use Rattle.rank.specs.Rank.{Hit}
use Rattle.rank.specs.Keep.{kept_of, keeper}
use Rattle.rank.specs.declared.keep.Kept.{Kept}
use Rattle.exhaustive.specs.Exhaustive.{rank_all, Answers as Ranks}
use Rattle.prune.proofs.Rooms.{Within}
use Rattle.exhaustive.proofs.Alls.{rank-within}
use Rattle.pruned.specs.Pruned.{searched, Ended, Refused}
use Rattle.pruned.specs.declared.search.Pruned.{Pruned}
use Rattle.intervals.specs.declared.stopped.Stopped.{Stopped}
use Rattle.pruned.proofs.Searches.{searched-within}
use Rattle.embed.specs.Report.{Reports, Fills}
use Rattle.embed.specs.Rows.{Fit, Fits, Rows, ranking, Hits}
use Rattle.embed.specs.Search.{Finds}

-- ---- the keeper that a ranker hands back fits: a ranking has no more hits than rows

kept-fit : (t : Kept) (o : Outcome (List Hit)) (rows : ℕ) (ds ss : List ℕ) → done (kept_of t) ≡ o → Within length rows o → t.n ≤ max_k → t ≡ keeper (kept_of t)
    → rows ≡ min (length ds) (length ss) → Fit t ds ss
kept-fit t o rows ds ss e w l z m =
    let h : length (kept_of t) ≤ rows = rw (sym e) at w in
    let n : t.n ≡ length (kept_of t) = ap (λ (x : Kept). x.n) z in
    record { few = l; docids = omega arith; scored = omega arith }

pub rank-fits : (q s : List ℕ) (rows : ℕ) (ds ss : List ℕ) (r : Result Kept Refusal) → Ranks (rank_all q s rows) r → rows ≡ min (length ds) (length ss) → Fits r ds ss
rank-fits q s rows ds ss (Ok t) h m = kept-fit t (rank_all q s rows) rows ds ss h.answer (rank-within q s rows) h.few h.whole m
rank-fits q s rows ds ss (Err r) h m = tt

pub search-fit : (q s : List ℕ) (rows : ℕ) (fs cs ms fs' cs' ms' ds ss : List ℕ) (r : Pruned)
    → Ended (searched q s rows fs cs ms) fs' cs' ms' r → rows ≡ min (length ds) (length ss) → Fit r.kept ds ss
search-fit q s rows fs cs ms fs' cs' ms' ds ss r h m =
    kept-fit r.kept (searched q s rows fs cs ms).outcome rows ds ss h.outcome (searched-within q s rows fs cs ms) h.few h.whole m

-- ---- a keeper's rows

pub both_columns : (n : ℕ) (ds ss old olds front fronts : List ℕ) → length ds ≡ length ss → n ≤ length ds
    → front ≡ take n ds → fronts ≡ take n ss → Rows (take n (postings ds ss)) old olds (front ++ drop n old) (fronts ++ drop n olds) n
both_columns n ds ss old olds front fronts e m g h =
    let d : docs (take n (postings ds ss)) ≡ take n ds = map-take (λ (p : Post). p.doc) n (postings ds ss) ∙ ap (take n) (docs-of ds ss e) in
    let s : scores (take n (postings ds ss)) ≡ take n ss = map-take (λ (p : Post). p.score) n (postings ds ss) ∙ ap (take n) (scores-of ds ss e) in
    record {
      docids = record { count = omega (arith, ap length d, length-take n ds); whole = rw (d, g) };
      scored = record { count = omega (arith, ap length s, length-take n ss); whole = rw (s, h) };
    }

-- ---- a ranking's rows, as they are told

column : (xs old new : List ℕ) (n number value : ℕ) → Holds old xs new n → Reports (done n) number value → Fills (done xs) old new number value
column xs old new n number value h p = record { reports = rw h.count at p; holds = rw h.count at h.whole }

pub told-hits : (hs : List Hit) (ds ss ds' ss' : List ℕ) (n number value : ℕ) → Rows hs ds ss ds' ss' n
    → Reports (done n) number value → Hits (done hs) ds ss ds' ss' number value
told-hits hs ds ss ds' ss' n number value h p =
    record { docids = column (docs hs) ds ds' n number value h.docids p; scored = column (scores hs) ss ss' n number value h.scored p }

pub told-refusal : (ds ss : List ℕ) (n a number value : ℕ) → Reports (refused n a) number value → Hits (refused n a) ds ss ds ss number value
told-refusal ds ss n a number value p = record { docids = record { reports = p; holds = refl }; scored = record { reports = p; holds = refl } }

-- ---- the entry points' contracts, m being the number of rows

ranked : (o : Outcome (List Hit)) (r : Result Kept Refusal) → Ranks o r → ranking r ≡ o
ranked o (Ok t) h = h.answer
ranked o (Err r) h = h

pub ranks : (q s : List ℕ) {rows m : ℕ} {ds ss ds' ss' : List ℕ} (r : Result Kept Refusal) {number value : ℕ} → rows ≡ m
    → Ranks (rank_all q s rows) r → Hits (ranking r) ds ss ds' ss' number value → Hits (rank_all q s m) ds ss ds' ss' number value
ranks q s {rows} r e h k = rw e at (rw (ranked (rank_all q s rows) r h) at k)

pub finds : (q s fs cs ms : List ℕ) {rows m : ℕ} {fs' cs' ms' ds ss ds' ss' : List ℕ} {r : Pruned} {number value : ℕ} → rows ≡ m
    → Ended (searched q s rows fs cs ms) fs' cs' ms' r → Hits (done (kept_of r.kept)) ds ss ds' ss' number value
    → Finds (searched q s m fs cs ms) ds ss ds' ss' fs' cs' ms' number value r.intervals r.opened r.blocks
finds q s fs cs ms e h k =
    let found = rw e at h in
    record {
      hits = rw found.outcome at k;
      intervals = found.book.intervals;
      opened = found.opened;
      blocks = found.blocks;
      firsts = found.book.firsts;
      ceilings = found.book.ceilings;
      marks = found.book.marks;
    }

pub stops : (q s fs cs ms : List ℕ) {rows m : ℕ} {fs' cs' ms' ds ss ds' ss' : List ℕ} {r : Stopped} {number value : ℕ} → rows ≡ m
    → Refused (searched q s rows fs cs ms) fs' cs' ms' r → Hits (ranking (Err r.refusal)) ds ss ds' ss' number value
    → Finds (searched q s m fs cs ms) ds ss ds' ss' fs' cs' ms' number value r.intervals 0 0
stops q s fs cs ms e h k =
    let found = rw e at h in
    record {
      hits = rw found.outcome at k;
      intervals = found.book.intervals;
      opened = sym found.opened;
      blocks = sym found.blocks;
      firsts = found.book.firsts;
      ceilings = found.book.ceilings;
      marks = found.book.marks;
    }
