-- `block::body::right_body` meets its contract. The invariant: the postings fit from the start as what is left of them fits from here. Assumes nothing.
use Rattle.block.specs.Body.{fits, right_body}
use Rattle.block.specs.Cursor.{step_at, posts_at}
use Rattle.block.specs.declared.cursor.Step.TheVariants.{Posting, End, Bad}
use Rattle.block.proofs.Steps.{step-onward, fit-posting, fit-end, fit_bad}
use Rattle.block.proofs.Bodies.{right-start}
use native.Mathlib.Nat.{max-eq_left, max-eq_right, le_of_lt}
use Prim.Native.Nat.{ℕ, ◌-◌, ◌<◌, max}
use mathlib.Core.Path.{◌≡◌, ◌∙◌}
use mathlib.Core.List.{List}
use borrow.Author.Tests.{eq-eqb, ne_eqb}
use lib.ListN.{length, take, drop}
use Rattle.block.proofs.body.right_body.Goals as goal

pub loop-doc-smaller-then-most-score : goal.loop-doc-smaller-then-most-score
loop-doc-smaller-then-most-score c =
    let front : List ℕ = take (c.edge-e.result - 0) c.args.s.now in
    let back : List ℕ = take (length c.args.s.now - c.edge-e.result) (drop c.edge-e.result c.args.s.now) in
    let stepped : step_at (front) (back) c.loop-doc.c ≡ Posting c.in-Posting.doc c.in-Posting.score c.in-Posting.onward = cc in
    let onward : c.in-Posting.onward.left < c.loop-doc.c.left = (step-onward (front) (back) c.loop-doc.c c.in-Posting.doc c.in-Posting.score c.in-Posting.onward (stepped)).0 in
    onward

pub loop-doc-preserved-then-most-score : goal.loop-doc-preserved-then-most-score
loop-doc-preserved-then-most-score c =
    let front : List ℕ = take (c.edge-e.result - 0) c.args.s.now in
    let back : List ℕ = take (length c.args.s.now - c.edge-e.result) (drop c.edge-e.result c.args.s.now) in
    let stepped : step_at (front) (back) c.loop-doc.c ≡ Posting c.in-Posting.doc c.in-Posting.score c.in-Posting.onward = cc in
    let judged : let m = c.args.m in
    fits m.greatest m.top 0 0 (posts_at (front) (back) c.new-c.result)
    ≡ fits m.greatest m.top c.in-Posting.doc (max c.loop-doc.most c.in-Posting.score) (posts_at (front) (back) c.in-Posting.onward) = let m = c.args.m in
    let l = c.loop-doc in
    l.invariant ∙ fit-posting (front) (back) l.c m.greatest m.top l.last l.most c.in-Posting.doc c.in-Posting.score c.in-Posting.onward (stepped) in
    rw (max-eq_right (le_of_lt c.if-most-score.true)) at (judged)

pub loop-doc-smaller : goal.loop-doc-smaller
loop-doc-smaller c =
    let front : List ℕ = take (c.edge-e.result - 0) c.args.s.now in
    let back : List ℕ = take (length c.args.s.now - c.edge-e.result) (drop c.edge-e.result c.args.s.now) in
    let stepped : step_at (front) (back) c.loop-doc.c ≡ Posting c.in-Posting.doc c.in-Posting.score c.in-Posting.onward = cc in
    let onward : c.in-Posting.onward.left < c.loop-doc.c.left = (step-onward (front) (back) c.loop-doc.c c.in-Posting.doc c.in-Posting.score c.in-Posting.onward (stepped)).0 in
    onward

pub loop-doc-preserved : goal.loop-doc-preserved
loop-doc-preserved c =
    let front : List ℕ = take (c.edge-e.result - 0) c.args.s.now in
    let back : List ℕ = take (length c.args.s.now - c.edge-e.result) (drop c.edge-e.result c.args.s.now) in
    let stepped : step_at (front) (back) c.loop-doc.c ≡ Posting c.in-Posting.doc c.in-Posting.score c.in-Posting.onward = cc in
    let judged : let m = c.args.m in
    fits m.greatest m.top 0 0 (posts_at (front) (back) c.new-c.result)
    ≡ fits m.greatest m.top c.in-Posting.doc (max c.loop-doc.most c.in-Posting.score) (posts_at (front) (back) c.in-Posting.onward) = let m = c.args.m in
    let l = c.loop-doc in
    l.invariant ∙ fit-posting (front) (back) l.c m.greatest m.top l.last l.most c.in-Posting.doc c.in-Posting.score c.in-Posting.onward (stepped) in
    rw (max-eq_left c.if-most-score.false) at (judged)

pub returns-then-last-greatest : goal.returns-then-last-greatest
returns-then-last-greatest c =
    let front : List ℕ = take (c.edge-e.result - 0) c.args.s.now in
    let back : List ℕ = take (length c.args.s.now - c.edge-e.result) (drop c.edge-e.result c.args.s.now) in
    let start : let a = c.args in
    right_body a.m a.s.now ≡ fits a.m.greatest a.m.top 0 0 (posts_at (front) (back) c.new-c.result) = right-start c.args.m c.args.s.now c.edge-e.result c.edge-e.ensures.0 c.new-c.result c.new-c.ensures in
    let m = c.args.m in
    let l = c.loop-doc in
    let f : step_at (front) (back) l.c ≡ End = cc in
    rw (start, l.invariant, fit-end (front) (back) l.c m.greatest m.top l.last l.most f, eq-eqb l.last m.greatest c.if-last-greatest.true)

pub returns-else-last-greatest : goal.returns-else-last-greatest
returns-else-last-greatest c =
    let front : List ℕ = take (c.edge-e.result - 0) c.args.s.now in
    let back : List ℕ = take (length c.args.s.now - c.edge-e.result) (drop c.edge-e.result c.args.s.now) in
    let start : let a = c.args in
    right_body a.m a.s.now ≡ fits a.m.greatest a.m.top 0 0 (posts_at (front) (back) c.new-c.result) = right-start c.args.m c.args.s.now c.edge-e.result c.edge-e.ensures.0 c.new-c.result c.new-c.ensures in
    let m = c.args.m in
    let l = c.loop-doc in
    let f : step_at (front) (back) l.c ≡ End = cc in
    rw (start, l.invariant, fit-end (front) (back) l.c m.greatest m.top l.last l.most f, ne_eqb l.last m.greatest c.if-last-greatest.false)

pub returns-in-Bad : goal.returns-in-Bad
returns-in-Bad c =
    let front : List ℕ = take (c.edge-e.result - 0) c.args.s.now in
    let back : List ℕ = take (length c.args.s.now - c.edge-e.result) (drop c.edge-e.result c.args.s.now) in
    let start : let a = c.args in
    right_body a.m a.s.now ≡ fits a.m.greatest a.m.top 0 0 (posts_at (front) (back) c.new-c.result) = right-start c.args.m c.args.s.now c.edge-e.result c.edge-e.ensures.0 c.new-c.result c.new-c.ensures in
    let m = c.args.m in
    let l = c.loop-doc in
    let f : step_at (front) (back) l.c ≡ Bad = cc in
    rw (start, l.invariant, fit_bad (front) (back) l.c m.greatest m.top l.last l.most f)
