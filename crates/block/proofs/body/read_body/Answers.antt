-- `block::body::read_body` meets its contract. The invariant: what is left to judge and to store gives what is asked (`Fillings`). Assumes nothing.
use Prim.Native.Nat.{ℕ, ◌+◌, ◌-◌, ◌<◌, max}
use native.Mathlib.Nat.{max-eq_left, max-eq_right, le_of_lt}
use mathlib.Core.Path.{◌≡◌}
use mathlib.Core.Bool.{false}
use mathlib.Core.List.{List, []}
use borrow.Author.Tests.{eq-eqb, ne_eqb}
use lib.Dec.{eqb}
use lib.ListN.{length, set, take, drop}
use Rattle.block.specs.Body.{fits, ReadsInto}
use Rattle.block.specs.Cursor.{step_at, posts_at, run_at}
use Rattle.block.specs.declared.cursor.Step.TheVariants.{Posting, End, Bad}
use Rattle.block.proofs.Steps.{step-onward, fit-end, fit_bad, run_end, run_bad}
use Rattle.block.proofs.Bodies.{front_of, back_of}
use Rattle.block.proofs.Fillings.{Filling, fill_start, fill-room, fill-turn, fill_done}
use Rattle.block.proofs.body.read_body.Goals as goal

pub loop-doc-init : goal.loop-doc-init
loop-doc-init c =
    let front : List ℕ = take (c.edge-e.result - 0) c.args.s.now in
    let back : List ℕ = take (length c.args.s.now - c.edge-e.result) (drop c.edge-e.result c.args.s.now) in
    let a = c.args in
    fill_start (front) (back) a.m c.new-c.result a.at a.docs.now a.scores.now c.new-c.ensures c.requires.0 c.requires.1

pub bounds-docs-i : goal.bounds-docs-i
bounds-docs-i c =
    let front : List ℕ = take (c.edge-e.result - 0) c.args.s.now in
    let back : List ℕ = take (length c.args.s.now - c.edge-e.result) (drop c.edge-e.result c.args.s.now) in
    let stepped : step_at (front) (back) c.loop-doc.c ≡ Posting c.in-Posting.doc c.in-Posting.score c.in-Posting.onward = cc in
    let room : (c.loop-doc.i < length c.loop-doc.docs) × (c.loop-doc.i < length c.loop-doc.scores) = fill-room c.in-Posting.doc c.in-Posting.score c.in-Posting.onward (stepped) c.loop-doc.invariant in
    (room).0

pub bounds-scores-i : goal.bounds-scores-i
bounds-scores-i c =
    let front : List ℕ = take (c.edge-e.result - 0) c.args.s.now in
    let back : List ℕ = take (length c.args.s.now - c.edge-e.result) (drop c.edge-e.result c.args.s.now) in
    let stepped : step_at (front) (back) c.loop-doc.c ≡ Posting c.in-Posting.doc c.in-Posting.score c.in-Posting.onward = cc in
    let room : (c.loop-doc.i < length c.loop-doc.docs) × (c.loop-doc.i < length c.loop-doc.scores) = fill-room c.in-Posting.doc c.in-Posting.score c.in-Posting.onward (stepped) c.loop-doc.invariant in
    (room).1

pub loop-doc-smaller-then-largest-score : goal.loop-doc-smaller-then-largest-score
loop-doc-smaller-then-largest-score c =
    let front : List ℕ = take (c.edge-e.result - 0) c.args.s.now in
    let back : List ℕ = take (length c.args.s.now - c.edge-e.result) (drop c.edge-e.result c.args.s.now) in
    let stepped : step_at (front) (back) c.loop-doc.c ≡ Posting c.in-Posting.doc c.in-Posting.score c.in-Posting.onward = cc in
    let onward : c.in-Posting.onward.left < c.loop-doc.c.left = (step-onward (front) (back) c.loop-doc.c c.in-Posting.doc c.in-Posting.score c.in-Posting.onward (stepped)).0 in
    onward

pub loop-doc-preserved-then-largest-score : goal.loop-doc-preserved-then-largest-score
loop-doc-preserved-then-largest-score c =
    let front : List ℕ = take (c.edge-e.result - 0) c.args.s.now in
    let back : List ℕ = take (length c.args.s.now - c.edge-e.result) (drop c.edge-e.result c.args.s.now) in
    let stepped : step_at (front) (back) c.loop-doc.c ≡ Posting c.in-Posting.doc c.in-Posting.score c.in-Posting.onward = cc in
    let turned : let a = c.args in
    let l = c.loop-doc in
    Filling (front) (back) a.m.greatest a.m.top c.new-c.result a.at a.docs.now a.scores.now
    (set l.docs l.i c.in-Posting.doc) (set l.scores l.i c.in-Posting.score)
    c.in-Posting.onward c.in-Posting.doc (max l.largest c.in-Posting.score) (l.i + 1) = fill-turn c.in-Posting.doc c.in-Posting.score c.in-Posting.onward (stepped) c.loop-doc.invariant in
    rw (max-eq_right (le_of_lt c.if-largest-score.true)) at (turned)

pub loop-doc-smaller : goal.loop-doc-smaller
loop-doc-smaller c =
    let front : List ℕ = take (c.edge-e.result - 0) c.args.s.now in
    let back : List ℕ = take (length c.args.s.now - c.edge-e.result) (drop c.edge-e.result c.args.s.now) in
    let stepped : step_at (front) (back) c.loop-doc.c ≡ Posting c.in-Posting.doc c.in-Posting.score c.in-Posting.onward = cc in
    let onward : c.in-Posting.onward.left < c.loop-doc.c.left = (step-onward (front) (back) c.loop-doc.c c.in-Posting.doc c.in-Posting.score c.in-Posting.onward (stepped)).0 in
    onward

pub loop-doc-preserved : goal.loop-doc-preserved
loop-doc-preserved c =
    let front : List ℕ = take (c.edge-e.result - 0) c.args.s.now in
    let back : List ℕ = take (length c.args.s.now - c.edge-e.result) (drop c.edge-e.result c.args.s.now) in
    let stepped : step_at (front) (back) c.loop-doc.c ≡ Posting c.in-Posting.doc c.in-Posting.score c.in-Posting.onward = cc in
    let turned : let a = c.args in
    let l = c.loop-doc in
    Filling (front) (back) a.m.greatest a.m.top c.new-c.result a.at a.docs.now a.scores.now
    (set l.docs l.i c.in-Posting.doc) (set l.scores l.i c.in-Posting.score)
    c.in-Posting.onward c.in-Posting.doc (max l.largest c.in-Posting.score) (l.i + 1) = fill-turn c.in-Posting.doc c.in-Posting.score c.in-Posting.onward (stepped) c.loop-doc.invariant in
    rw (max-eq_left c.if-largest-score.false) at (turned)

pub returns-then-last-greatest : goal.returns-then-last-greatest
returns-then-last-greatest c =
    let front : List ℕ = take (c.edge-e.result - 0) c.args.s.now in
    let back : List ℕ = take (length c.args.s.now - c.edge-e.result) (drop c.edge-e.result c.args.s.now) in
    let done : let a = c.args in
    let l = c.loop-doc in
    run_at (front) (back) l.c ≡ [] →
    ReadsInto a.m a.s.now a.at a.docs.now a.scores.now l.docs l.scores (fits a.m.greatest a.m.top l.last l.largest (posts_at (front) (back) l.c)) = λ n. let a = c.args in
    let l = c.loop-doc in
    let e = c.edge-e.result in
    let q = c.edge-e.ensures.0 in
    fill_done a.s.now a.m (front) (back) (front_of a.m a.s.now e q) (back_of a.m a.s.now e q)
    c.new-c.result a.at a.docs.now a.scores.now l.docs l.scores l.c l.last l.largest l.i c.new-c.ensures n l.invariant in
    let m = c.args.m in
    let l = c.loop-doc in
    let f : step_at (front) (back) l.c ≡ End = cc in
    let e : fits m.greatest m.top l.last l.largest (posts_at (front) (back) l.c) ≡ eqb l.largest m.top = rw (fit-end (front) (back) l.c m.greatest m.top l.last l.largest f, eq-eqb l.last m.greatest c.if-last-greatest.true) in
    rw e at (done (run_end (front) (back) l.c f))

pub returns-else-last-greatest : goal.returns-else-last-greatest
returns-else-last-greatest c =
    let front : List ℕ = take (c.edge-e.result - 0) c.args.s.now in
    let back : List ℕ = take (length c.args.s.now - c.edge-e.result) (drop c.edge-e.result c.args.s.now) in
    let done : let a = c.args in
    let l = c.loop-doc in
    run_at (front) (back) l.c ≡ [] →
    ReadsInto a.m a.s.now a.at a.docs.now a.scores.now l.docs l.scores (fits a.m.greatest a.m.top l.last l.largest (posts_at (front) (back) l.c)) = λ n. let a = c.args in
    let l = c.loop-doc in
    let e = c.edge-e.result in
    let q = c.edge-e.ensures.0 in
    fill_done a.s.now a.m (front) (back) (front_of a.m a.s.now e q) (back_of a.m a.s.now e q)
    c.new-c.result a.at a.docs.now a.scores.now l.docs l.scores l.c l.last l.largest l.i c.new-c.ensures n l.invariant in
    let m = c.args.m in
    let l = c.loop-doc in
    let f : step_at (front) (back) l.c ≡ End = cc in
    let e : fits m.greatest m.top l.last l.largest (posts_at (front) (back) l.c) ≡ eqb l.last m.greatest = rw (fit-end (front) (back) l.c m.greatest m.top l.last l.largest f, ne_eqb l.last m.greatest c.if-last-greatest.false) in
    rw e at (done (run_end (front) (back) l.c f))

pub returns-in-Bad : goal.returns-in-Bad
returns-in-Bad c =
    let front : List ℕ = take (c.edge-e.result - 0) c.args.s.now in
    let back : List ℕ = take (length c.args.s.now - c.edge-e.result) (drop c.edge-e.result c.args.s.now) in
    let done : let a = c.args in
    let l = c.loop-doc in
    run_at (front) (back) l.c ≡ [] →
    ReadsInto a.m a.s.now a.at a.docs.now a.scores.now l.docs l.scores (fits a.m.greatest a.m.top l.last l.largest (posts_at (front) (back) l.c)) = λ n. let a = c.args in
    let l = c.loop-doc in
    let e = c.edge-e.result in
    let q = c.edge-e.ensures.0 in
    fill_done a.s.now a.m (front) (back) (front_of a.m a.s.now e q) (back_of a.m a.s.now e q)
    c.new-c.result a.at a.docs.now a.scores.now l.docs l.scores l.c l.last l.largest l.i c.new-c.ensures n l.invariant in
    let m = c.args.m in
    let l = c.loop-doc in
    let f : step_at (front) (back) l.c ≡ Bad = cc in
    let e : fits m.greatest m.top l.last l.largest (posts_at (front) (back) l.c) ≡ false = fit_bad (front) (back) l.c m.greatest m.top l.last l.largest f in
    rw e at (done (run_bad (front) (back) l.c f))
