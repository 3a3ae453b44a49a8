-- What the two programs print, for every input: the first fault's line, or the answer. Assumes nothing.
use Prim.Native.Nat.{ℕ}
use native.Mathlib.Omega.{arith}
use mathlib.Core.Path.{◌≡◌, refl, sym, ap, subst, ◌∙◌}
use mathlib.Core.Bool.{Bool, true, false, cond}
use mathlib.Core.List.{List, map}
use lib.Dec.{ltb}
use lib.ListN.{length, take, drop, replicate, length-map, length-replicate}
use lib.Seq.{take_at}
use Rattle.model.specs.Limits.{max_docid, max_k}
use Rattle.model.specs.Outcome.{Outcome, refused, done, and_then}
use Rattle.shelf.specs.Check.{judged}
use Rattle.rank.specs.Rank.{Hit}
use Rattle.rank.specs.Match.{any_list}
use Rattle.prune.specs.Cut.{starts, ceiling_at}
use Rattle.prune.specs.Prune.{never, pruned, book}
use Rattle.pruned.specs.Pruned.{Sought, sought, Answer, front, answer, searched}
use Rattle.pruned.proofs.Endings.{book-long}
use Rattle.lines.specs.Book.{max_intervals}
use Rattle.lines.specs.Text.{codes, refusal_line, Shown, text}
use Rattle.report.specs.Report.{max_input, query_part, shelf_part, shown_of, search_shown, reported}
use Rattle.checking.specs.Verdict.{verdict_text, checked_text}
use Rattle.promises.specs.Refusals.{row, first_fault, check_faults, search_faults, program_faults}
use Rattle.promises.specs.Book.{PrintedAs}
use Rattle.promises.proofs.Refusals.{when_row, after, check_refuses, search_refuses}

-- ---- a refusal

text-refused : (o : Outcome Shown) (n at : ℕ) → judged o ≡ refused n at → text o ≡ refusal_line n at
text-refused (refused m p) n at e = let f : m ≡ n = cc in let g : p ≡ at = cc in rw (f, g)
text-refused (done x) n at e = let z : ◌≡◌ {A = ℕ} 0 1 = cc in absurd (omega arith)

-- what a search shows is refused as its answer is
judged_then : {A B : Type 0} (o : Outcome A) (f : A → B) → judged (and_then o (λ x. done (f x))) ≡ judged o
judged_then (refused n at) f = refl
judged_then (done x) f = refl

judged-shown : (o : Outcome Sought) (fs cs ms : List ℕ) → judged (shown_of o) ≡ judged (answer o fs cs ms).outcome
judged-shown (refused n at) fs cs ms = refl
judged-shown (done x) fs cs ms = judged_then (pruned any_list never max_docid x.k x.lists) _

module _ (q s fs cs ms : List ℕ) (f : length fs ≡ max_intervals) (c : length cs ≡ max_intervals) (m : length ms ≡ max_intervals) where
  -- the search with the runs that the program lends
  lent : searched q s max_k fs cs ms ≡ answer (sought q s max_k max_intervals max_intervals max_intervals) fs cs ms
  unfolding searched
  lent = rw (f, c, m)

  shown-first : judged (search_shown q s) ≡ first_fault (search_faults q s max_k max_intervals max_intervals max_intervals)
  unfolding search_shown
  shown-first =
      judged-shown (sought q s max_k max_intervals max_intervals max_intervals) fs cs ms
      ∙ ap (λ (a : Answer). judged a.outcome) (sym lent)
      ∙ (rw (f, c, m) at (search_refuses q s max_k fs cs ms))

-- the program's own runs
zeros : List ℕ
zeros = replicate max_intervals 0

zeros-long : length zeros ≡ max_intervals
unfolding zeros
zeros-long = length-replicate {A = ℕ} max_intervals 0

module _ (input : List ℕ) where
  abbrev found : Outcome Shown
  found = search_shown (query_part input) (shelf_part input)

  program_first : judged (cond (ltb max_input (length input)) (refused 13 0) found) ≡ first_fault (program_faults input)
  program_first =
      when_row (ltb max_input (length input)) 13 0 found
      ∙ after (row (ltb max_input (length input)) 13 0) (shown-first (query_part input) (shelf_part input) zeros zeros zeros zeros-long zeros-long zeros-long)

  pub program_refuses : (n at : ℕ) → first_fault (program_faults input) ≡ refused n at → reported input ≡ refusal_line n at
  unfolding reported
  program_refuses n at e = text-refused (cond (ltb max_input (length input)) (refused 13 0) found) n at (program_first ∙ e)

-- ---- an answer

take-front : (rows old : List ℕ) (n : ℕ) → length rows ≡ n → take n (front rows old) ≡ rows
take-front rows old n e = take_at rows (drop (length rows) old) n e

printed_as : (o : Outcome Sought) (fs cs ms : List ℕ) → judged (shown_of o) ≡ done tt → PrintedAs (text (shown_of o)) (answer o fs cs ms)
printed_as (refused n at) fs cs ms j = let z : ◌≡◌ {A = ℕ} 0 1 = cc in absurd (omega arith)
printed_as (done x) fs cs ms j = go (pruned any_list never max_docid x.k x.lists) refl
  where
    go : (p : Outcome (List Hit)) → pruned any_list never max_docid x.k x.lists ≡ p → PrintedAs (text (shown_of (done x))) (answer (done x) fs cs ms)
    go (refused n at) e = let g : refused n at ≡ done tt = rw e at j in let z : ◌≡◌ {A = ℕ} 0 1 = cc in absurd (omega arith)
    go (done hs) e =
        let firsts = starts max_docid x.lists in
        record {
          hits = hs;
          answered = e;
          lines = rw (
            e,
            take-front firsts fs (length firsts) refl,
            take-front (map (ceiling_at x.lists) firsts) cs (length firsts) (length-map firsts (ceiling_at x.lists)),
            take-front (book any_list never max_docid x.k x.lists) ms (length firsts) (book-long x.k x.lists),
          );
        }

pub program_answers : (input fs cs ms : List ℕ) → length fs ≡ max_intervals → length cs ≡ max_intervals → length ms ≡ max_intervals
    → first_fault (program_faults input) ≡ done tt → PrintedAs (reported input) (searched (query_part input) (shelf_part input) max_k fs cs ms)
unfolding reported search_shown
program_answers input fs cs ms f c m e = go (ltb max_input (length input)) refl (program_first input ∙ e)
  where
    go : (t : Bool) → ltb max_input (length input) ≡ t → judged (cond t (refused 13 0) (found input)) ≡ done tt → PrintedAs (text (cond t (refused 13 0) (found input))) (searched (query_part input) (shelf_part input) max_k fs cs ms)
    go true g h = let z : ◌≡◌ {A = ℕ} 0 1 = cc in absurd (omega arith)
    go false g h =
        subst (PrintedAs (text (found input))) (sym (lent (query_part input) (shelf_part input) fs cs ms f c m))
        (printed_as (sought (query_part input) (shelf_part input) max_k max_intervals max_intervals max_intervals) fs cs ms h)

-- ---- the checker

pub checker_refuses : (s : List ℕ) (n at : ℕ) → first_fault (check_faults s) ≡ refused n at → checked_text s ≡ refusal_line n at
unfolding checked_text
checker_refuses s n at e = ap verdict_text (check_refuses s ∙ e)

pub checker_accepts : (s : List ℕ) → first_fault (check_faults s) ≡ done tt → checked_text s ≡ codes "sound\n"
unfolding checked_text
checker_accepts s e = ap verdict_text (check_refuses s ∙ e)
