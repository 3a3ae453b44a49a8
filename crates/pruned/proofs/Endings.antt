-- Each way out of the search over gathered blocks, by what the book and the run say. Assumes nothing.
use Prim.Native.Nat.{ℕ, suc}
use mathlib.Core.Path.{◌≡◌, refl, sym, ap, subst, ◌∙◌}
use mathlib.Core.List.{List, [], ◌∷◌, ◌++◌, map}
use native.Mathlib.Omega.{arith}
use lib.ListN.{length, drop, length-map}
use Rattle.model.specs.Limits.{max_docid, max_terms}
use Rattle.model.specs.Outcome.{Outcome, refused, done}
use Rattle.model.proofs.Lists.{split}
use Rattle.lookup.specs.declared.gather.Blocks.{Blocks}
use Rattle.rank.specs.Rank.{Hit}
use Rattle.rank.specs.Match.{any_list}
use Rattle.rank.specs.Keep.{kept_of}
use Rattle.prune.specs.Cut.{Listing, starts, ceiling_at, block_count}
use Rattle.prune.specs.Search.{Span, step, marks_from}
use Rattle.prune.specs.Prune.{never, spans, pruned, book, blocks_opened}
use Rattle.exhaustive.specs.Merge.{lists_from}
use Rattle.std.specs.Prelude.{Result, Ok, Err}
use Rattle.model.specs.Refusal.{number, refusal}
use Rattle.model.specs.declared.refusal.Refusal.{Refusal}
use Rattle.model.specs.declared.refusal.Fault.TheVariants as fault
use Rattle.intervals.specs.declared.stopped.Stopped.{Stopped}
use Rattle.intervals.specs.Stopped.{early}
use Rattle.opening.specs.Table.{block_in, lists_in}
use Rattle.intervals.specs.Run as run
use Rattle.intervals.specs.Run.{Halted}
use Rattle.intervals.specs.Blocks.{room_for, Books}
use Rattle.intervals.specs.declared.blocks.Booked.{Booked}
use Rattle.intervals.proofs.Spans.{spans-long}
use Rattle.pruned.specs.Pruned.{Answer, Answers, Ended, Refused, BookIs, unless_refused, fitting, answer}
use Rattle.pruned.specs.declared.search.Pruned.{Pruned}
use Rattle.pruned.proofs.Gatherings.{Tabled, tabled_lists, tabled_count}

-- the answer of a search over some lists
abbrev pub over : (k : ℕ) (fs cs ms : List ℕ) → List Listing → Answer
over k fs cs ms us = answer (fitting k us (length fs) (length cs) (length ms)) fs cs ms

-- the same answer by another name
pub answers_as : {a b : Answer} (fs cs ms : List ℕ) (r : Result Pruned Stopped) → a ≡ b → Answers a fs cs ms r → Answers b fs cs ms r
answers_as {a} {b} fs cs ms r e h = subst (λ (x : Answer). Answers x fs cs ms r) e h

pub refused_as : {a b : Answer} {fs cs ms : List ℕ} {r : Stopped} → a ≡ b → Refused a fs cs ms r → Refused b fs cs ms r
refused_as {a} {b} {fs} {cs} {ms} {r} e h = subst (λ (x : Answer). Refused x fs cs ms r) e h

ended_as : {a b : Answer} {fs cs ms : List ℕ} {r : Pruned} → a ≡ b → Ended a fs cs ms r → Ended b fs cs ms r
ended_as {a} {b} {fs} {cs} {ms} {r} e h = subst (λ (x : Answer). Ended x fs cs ms r) e h

-- a result is of one way only
err_same : (a b : Stopped) → ◌≡◌ {A = Result Booked Stopped} (Err a) (Err b) → a ≡ b
err_same a b e = cc e

not_err : (a : Booked) (b : Stopped) → ◌≡◌ {A = Result Booked Stopped} (Ok a) (Err b) → ⊥
not_err a b e = cc e

-- before the search nothing is touched
pub refused_early : (r : Refusal) (fs cs ms : List ℕ) → Refused (answer (refused (number r.fault) r.offset) fs cs ms) fs cs ms (early r)
refused_early r fs cs ms = record { outcome = refl; opened = refl; blocks = refl; book = record { intervals = refl; firsts = refl; ceilings = refl; marks = refl } }

-- a mark for each interval
marks-long : (k : ℕ) (now : Outcome (List Hit)) (ss : List Span) → length (marks_from k now ss) ≡ length ss
marks-long k now [] = refl
marks-long k now (s ∷ ss) = ap suc (marks-long k (step k now s) ss)

pub book-long : (k : ℕ) (ls : List Listing) → length (book any_list never max_docid k ls) ≡ length (starts max_docid ls)
book-long k ls = marks-long k (done []) (spans any_list never max_docid ls) ∙ spans-long max_docid ls

module _ (s ats sizes : List ℕ) (k : ℕ) (r : Blocks) (g : Tabled s ats sizes k r) (ws : List ℕ) (w : length ws ≡ max_terms) (fs cs ms fs' cs' ms' : List ℕ) where
  abbrev ls : List Listing
  ls = lists_in (block_in s r.los r.his r.tops r.counts r.bodies) r.ends ws

  abbrev searched_over : List ℕ → Result Booked Stopped → Type 0
  searched_over ms' b = Books s r.ends r.los r.his r.tops r.counts r.bodies ws k fs cs ms fs' cs' ms' b

  -- the book is filled, whatever the search found
  booked : (n : ℕ) (o : Outcome (List Hit)) → pruned any_list never max_docid k ls ≡ o → n ≡ length (starts max_docid ls)
      → fs' ≡ starts max_docid ls ++ drop (length (starts max_docid ls)) fs → cs' ≡ map (ceiling_at ls) (starts max_docid ls) ++ drop (length (starts max_docid ls)) cs
      → ms' ≡ book any_list never max_docid k ls ++ drop (length (starts max_docid ls)) ms → BookIs (answer (done (record { k = k; lists = ls })) fs cs ms) n fs' cs' ms'
  booked n o f size first tall marked = record {
    intervals = size;
    firsts = first;
    ceilings = tall ∙ ap {B = List ℕ} (λ x. map (ceiling_at ls) (starts max_docid ls) ++ drop x cs) (sym (length-map (starts max_docid ls) (ceiling_at ls)));
    marks = marked ∙ ap {B = List ℕ} (λ x. book any_list never max_docid k ls ++ drop x ms) (sym (book-long k ls));
  }

  -- "8: wrong body: its tag"
  ends_wrong : (at n : ℕ) → n ≡ length (starts max_docid ls) → fs' ≡ starts max_docid ls ++ drop (length (starts max_docid ls)) fs
      → cs' ≡ map (ceiling_at ls) (starts max_docid ls) ++ drop (length (starts max_docid ls)) cs
      → Halted s r.ends r.los r.his r.tops r.counts r.bodies ws k (starts max_docid ls) ms ms' at
      → Refused (answer (done (record { k = k; lists = ls })) fs cs ms) fs' cs' ms' (record { refusal = refusal fault.Body at; intervals = n })
  ends_wrong at n size first tall h =
      record {
        outcome = h.found;
        opened = ap {B = ℕ} (λ x. unless_refused x (blocks_opened any_list never max_docid k ls)) (sym h.found);
        blocks = ap {B = ℕ} (λ x. unless_refused x (block_count ls)) (sym h.found);
        book = booked n (refused 8 at) (sym h.found) size first tall h.marked;
      }

  ends_done : (b : Booked) → b.intervals ≡ length (starts max_docid ls) → fs' ≡ starts max_docid ls ++ drop (length (starts max_docid ls)) fs
      → cs' ≡ map (ceiling_at ls) (starts max_docid ls) ++ drop (length (starts max_docid ls)) cs
      → run.Ended s r.ends r.los r.his r.tops r.counts r.bodies ws k (starts max_docid ls) ms ms' b.run
      → Ended (answer (done (record { k = k; lists = ls })) fs cs ms) fs' cs' ms' (record { intervals = b.intervals; opened = b.run.opened; blocks = r.n; kept = b.run.kept })
  ends_done b size first tall h =
      let hits = kept_of b.run.kept in
      let n : r.n ≡ block_count ls = tabled_count s ats sizes k r g ws w ∙ ap block_count (sym (tabled_lists s ats sizes k r g ws w)) in
      record {
        outcome = h.found;
        few = omega (arith, h.few, g.ok.walked.most);
        whole = h.whole;
        opened = h.opened ∙ ap {B = ℕ} (λ x. unless_refused x (blocks_opened any_list never max_docid k ls)) h.found;
        blocks = n ∙ ap {B = ℕ} (λ x. unless_refused x (block_count ls)) h.found;
        book = booked b.intervals (done hits) (sym h.found) size first tall h.marked;
      }

  pub ends-stopped : (e : Stopped) → Books s r.ends r.los r.his r.tops r.counts r.bodies ws k fs cs ms fs' cs' ms' (Err e) → Refused (over k fs cs ms (lists_from s ws ats sizes)) fs' cs' ms' e
  ends-stopped e h =
      refused_as (ap (over k fs cs ms) (tabled_lists s ats sizes k r g ws w))
      (split (room_for (length (starts max_docid ls)) (length fs) (length cs) (length ms))
      (λ x. let f = h.filled x in let u = f.run in rw (x, u.1) (ends_wrong u.0 (length (starts max_docid ls)) refl f.firsts f.ceilings u.2))
      (λ x. let u = h.refused x in rw (x, err_same e _ u.refused, u.firsts, u.ceilings, u.marks) (refused_early (refusal fault.Room 0) fs cs ms)))

  pub ends-ended : (b : Booked) → Books s r.ends r.los r.his r.tops r.counts r.bodies ws k fs cs ms fs' cs' ms' (Ok b)
      → Ended (over k fs cs ms (lists_from s ws ats sizes)) fs' cs' ms' (record { intervals = b.intervals; opened = b.run.opened; blocks = r.n; kept = b.run.kept })
  ends-ended b h =
      ended_as (ap (over k fs cs ms) (tabled_lists s ats sizes k r g ws w))
      (split (room_for (length (starts max_docid ls)) (length fs) (length cs) (length ms))
      (λ x. let f = h.filled x in rw x (ends_done b f.run.0 f.firsts f.ceilings f.run.1))
      (λ x. absurd (not_err b _ (h.refused x).refused)))
