-- `change::place::place` meets its contract: a law for each refusal and each kind of seat (`News`). Assumes nothing.
use native.Mathlib.Omega.{arith}
use mathlib.Core.Path.{◌≡◌}
use lib.ListN.{length}
use Rattle.list.proofs.Faults.{gives-refused}
use Rattle.change.specs.Seat.{strip_by}
use Rattle.change.specs.declared.seat.Seat.TheVariants.{Taken, Free}
use Rattle.change.proofs.Pieces.{sound-lists}
use Rattle.change.proofs.News.{place_many, place_full, place-free, place-taken}
use Rattle.change.proofs.place.place.Goals as goal

pub returns-then-docs-gt-MAX_POSTINGS : goal.returns-then-docs-gt-MAX_POSTINGS
returns-then-docs-gt-MAX_POSTINGS c =
    let a = c.args in
    λ ls e. rw c.at.ensures (gives-refused _ a.out.now (place_many a.s.now (length ls) a.term a.docs.now a.scores.now (length a.out.now) c.requires.same a.seat c.if-docs-gt-MAX_POSTINGS.true))

pub returns-then-lists_in : goal.returns-then-lists_in
returns-then-lists_in c =
    let a = c.args in
    let k : a.seat ≡ Free c.in-Free.at = cc in
    λ ls e. rw k (rw c.at-then-lists_in.ensures (gives-refused _ a.out.now (place_full a.s.now (length ls) a.term a.docs.now a.scores.now (length a.out.now) c.requires.same c.in-Free.at c.if-docs-gt-MAX_POSTINGS.false (omega (arith, c.lists_in.ensures ls e, c.if-lists_in.true)))))

pub returns-in-Taken : goal.returns-in-Taken
returns-in-Taken c =
    let a = c.args in
    let k : a.seat ≡ Taken c.in-Taken.p = cc in
    let layout : c.strip_of-strip.result ≡ strip_by a.s.now (Taken c.in-Taken.p) = rw k at c.strip_of-strip.ensures in
    λ ls e. rw (k, place-taken a.s.now (length ls) a.term a.docs.now a.scores.now (length a.out.now) c.requires.same c.in-Taken.p c.if-docs-gt-MAX_POSTINGS.false (sound-lists a.s.now ls e), ← layout) c.splice.ensures

pub returns-else-lists_in : goal.returns-else-lists_in
returns-else-lists_in c =
    let a = c.args in
    let k : a.seat ≡ Free c.in-Free.at = cc in
    let layout : c.strip_of-strip.result ≡ strip_by a.s.now (Free c.in-Free.at) = rw k at c.strip_of-strip.ensures in
    λ ls e. rw (k, place-free a.s.now (length ls) a.term a.docs.now a.scores.now (length a.out.now) c.requires.same c.in-Free.at c.if-docs-gt-MAX_POSTINGS.false (omega (arith, c.lists_in.ensures ls e, c.if-lists_in.false)), ← layout) c.splice-in-Free.ensures
