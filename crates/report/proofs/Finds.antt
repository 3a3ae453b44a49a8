-- What the search's contract says of what is printed. Assumes nothing.
use Prim.Native.Nat.{ℕ, ◌≤◌}
use native.Mathlib.Omega.{arith}
use mathlib.Core.Path.{◌≡◌, refl, sym, ap, ◌∙◌}
use mathlib.Core.List.{List, map}
use lib.ListN.{length, take, drop, length-map, length-append}
use lib.Seq.{take_at}
use Rattle.model.specs.Limits.{max_docid, max_k}
use Rattle.model.specs.Outcome.{Outcome, refused, done}
use Rattle.model.specs.Refusal.{number}
use Rattle.std.specs.Prelude.{Result, Ok, Err}
use Rattle.rank.specs.Match.{any_list}
use Rattle.prune.specs.Cut.{starts, ceiling_at, block_count}
use Rattle.prune.specs.Prune.{never, book, blocks_opened}
use Rattle.prune.proofs.Cuts.{cuts_asc}
use Rattle.pruned.specs.Pruned.{Sought, sought, answer, searched, front, Ended, Answers}
use Rattle.pruned.specs.declared.search.Pruned.{Pruned}
use Rattle.intervals.specs.declared.stopped.Stopped.{Stopped}
use Rattle.pruned.proofs.Endings.{book-long}
use Rattle.lines.specs.Book.{max_intervals}
use Rattle.report.specs.Report.{shown_of, search_shown, told, Printed, Printable}

-- ---- the book's rows stand at the front of its runs

take-front : (rows old : List ℕ) (n : ℕ) → n ≡ length rows → take n (front rows old) ≡ rows
take-front rows old n e = take_at rows (drop (length rows) old) n (sym e)

front_fits : (rows old run : List ℕ) → run ≡ front rows old → length rows ≤ length run
front_fits rows old run e = omega (arith, ap length e, length-append rows (drop (length rows) old))

-- ---- what was told is what the search shows

module _ (fs cs ms fs' cs' ms' : List ℕ) where
  -- the book's rows, of a search that was done
  module _ (x : Sought) (r : Pruned) (w : Ended (answer (done x) fs cs ms) fs' cs' ms' r) where
    abbrev firsts : List ℕ
    firsts = starts max_docid x.lists

    abbrev ceilings : List ℕ
    ceilings = map (ceiling_at x.lists) firsts

    abbrev row : List ℕ
    row = book any_list never max_docid x.k x.lists

    firsts_are : take r.intervals fs' ≡ firsts
    firsts_are = rw w.book.firsts (take-front firsts fs r.intervals w.book.intervals)

    ceilings_are : take r.intervals cs' ≡ ceilings
    ceilings_are = rw w.book.ceilings (take-front ceilings cs r.intervals (w.book.intervals ∙ sym (length-map firsts (ceiling_at x.lists))))

    marks_are : take r.intervals ms' ≡ row
    marks_are = rw w.book.marks (take-front row ms r.intervals (w.book.intervals ∙ sym (book-long x.k x.lists)))

    told-done : told (Ok r) fs' cs' ms' ≡ shown_of (done x)
    told-done =
        let o : r.opened ≡ blocks_opened any_list never max_docid x.k x.lists = rw (sym w.outcome) at w.opened in
        let b : r.blocks ≡ block_count x.lists = rw (sym w.outcome) at w.blocks in
        rw (← w.outcome, firsts_are, ceilings_are, marks_are, o, b)

    printed_done : length fs' ≡ max_intervals → Printed r fs' cs' ms'
    printed_done l =
        let f = front_fits firsts fs fs' w.book.firsts in
        record {
          kept = w.few;
          rows = omega (arith, f, w.book.intervals);
          firsts = omega (arith, f, w.book.intervals);
          ceilings = omega (arith, front_fits ceilings cs cs' w.book.ceilings, w.book.intervals, length-map firsts (ceiling_at x.lists));
          marks = omega (arith, front_fits row ms ms' w.book.marks, w.book.intervals, book-long x.k x.lists);
          book =
              rw (firsts_are, ceilings_are, marks_are)
              (record { rise = (omega arith, cuts_asc max_docid x.lists); ceilings = length-map firsts (ceiling_at x.lists); marks = book-long x.k x.lists });
        }

  pub finds_told : (o : Outcome Sought) (r : Result Pruned Stopped) → Answers (answer o fs cs ms) fs' cs' ms' r → told r fs' cs' ms' ≡ shown_of o
  finds_told (done x) (Ok r) w = told-done x r w
  finds_told (done x) (Err r) w = rw (← w.outcome)
  finds_told (refused n at) (Ok r) w = let e = w.outcome in let z : ◌≡◌ {A = ℕ} 0 1 = cc in absurd (omega arith)
  finds_told (refused n at) (Err r) w =
      let e = w.outcome in
      let f : number r.refusal.fault ≡ n = cc in
      let g : r.refusal.offset ≡ at = cc in
      rw (f, g)

  pub finds_printable : (o : Outcome Sought) (r : Result Pruned Stopped) → Answers (answer o fs cs ms) fs' cs' ms' r → length fs' ≡ max_intervals → Printable r fs' cs' ms'
  finds_printable (done x) (Ok r) w l = printed_done x r w l
  finds_printable (refused n at) (Ok r) w l = let e = w.outcome in let z : ◌≡◌ {A = ℕ} 0 1 = cc in absurd (omega arith)
  finds_printable o (Err r) w l = tt

-- ---- the search with the runs that the program lends

-- what is sought with room for every answer
abbrev pub lent : (q s : List ℕ) → Outcome Sought
lent q s = sought q s max_k max_intervals max_intervals max_intervals

pub asked : (q s fs cs ms fs' cs' ms' : List ℕ) (r : Result Pruned Stopped) → length fs ≡ max_intervals → length cs ≡ max_intervals → length ms ≡ max_intervals
    → Answers (searched q s max_k fs cs ms) fs' cs' ms' r → Answers (answer (lent q s) fs cs ms) fs' cs' ms' r
unfolding searched
asked q s fs cs ms fs' cs' ms' r f c m w = rw (f, c, m) at w

pub shown-lent : (q s : List ℕ) → shown_of (lent q s) ≡ search_shown q s
unfolding search_shown
shown-lent q s = refl
