-- `edit::holds::body_holds` meets its contract. The invariant: the docid is sought in the postings left (`Seekings`). Assumes nothing.
use Prim.Native.Nat.{ℕ, ◌-◌}
use mathlib.Core.Path.{◌≡◌, sym, ◌∙◌}
use mathlib.Core.List.{List}
use lib.ListN.{length, take, drop}
use Rattle.model.specs.Post.{docs}
use Rattle.model.specs.Runs.{has}
use Rattle.block.specs.Body.{body_run}
use Rattle.block.specs.Cursor.{step_at, run_at}
use Rattle.block.specs.declared.cursor.Step.TheVariants.{Posting, End, Bad}
use Rattle.block.proofs.Bodies.{front_of, back_of}
use Rattle.block.proofs.Steps.{step-onward, run_end, run_bad}
use Rattle.edit.proofs.Seekings.{seek-none, body-all, body-start, body-on, body-here}
use Rattle.edit.proofs.holds.body_holds.Goals as goal

pub loop-doc-init : goal.loop-doc-init
loop-doc-init c =
    let front : List ℕ = take (c.edge-e.result - 0) c.args.s.now in
    let back : List ℕ = let s = c.args.s.now in
    let e = c.edge-e.result in
    take (length s - e) (drop e s) in
    let s = c.args.s.now in
    let e = c.edge-e in
    body-start c.args.d c.args.m s (front) (back) c.new-c.result (front_of c.args.m s e.result e.ensures.0) (back_of c.args.m s e.result e.ensures.0) c.new-c.ensures c.requires

pub returns-then-d-doc : goal.returns-then-d-doc
returns-then-d-doc c =
    let front : List ℕ = take (c.edge-e.result - 0) c.args.s.now in
    let back : List ℕ = let s = c.args.s.now in
    let e = c.edge-e.result in
    take (length s - e) (drop e s) in
    let all : let a = c.args in
    has a.d (docs (run_at (front) (back) c.new-c.result)) ≡ has a.d (docs (body_run a.m a.s.now)) = let a = c.args in
    let s = a.s.now in
    let e = c.edge-e in
    body-all a.d a.m s (front) (back) c.new-c.result (front_of a.m s e.result e.ensures.0) (back_of a.m s e.result e.ensures.0) c.new-c.ensures in
    let stepped : step_at front back c.loop-doc.c ≡ Posting c.in-Posting.doc c.in-Posting.score c.in-Posting.onward = cc in
    let l = c.loop-doc in
    sym (body-here (front) (back) l.c c.in-Posting.doc c.in-Posting.score c.in-Posting.onward (stepped) l.invariant c.if-d-doc.true) ∙ all

pub loop-doc-smaller : goal.loop-doc-smaller
loop-doc-smaller c =
    let front : List ℕ = take (c.edge-e.result - 0) c.args.s.now in
    let back : List ℕ = let s = c.args.s.now in
    let e = c.edge-e.result in
    take (length s - e) (drop e s) in
    let stepped : step_at front back c.loop-doc.c ≡ Posting c.in-Posting.doc c.in-Posting.score c.in-Posting.onward = cc in
    (step-onward (front) (back) c.loop-doc.c c.in-Posting.doc c.in-Posting.score c.in-Posting.onward (stepped)).0

pub loop-doc-preserved : goal.loop-doc-preserved
loop-doc-preserved c =
    let front : List ℕ = take (c.edge-e.result - 0) c.args.s.now in
    let back : List ℕ = let s = c.args.s.now in
    let e = c.edge-e.result in
    take (length s - e) (drop e s) in
    let stepped : step_at front back c.loop-doc.c ≡ Posting c.in-Posting.doc c.in-Posting.score c.in-Posting.onward = cc in
    let l = c.loop-doc in
    body-on (front) (back) l.c c.in-Posting.doc c.in-Posting.score c.in-Posting.onward (stepped) l.invariant c.if-d-doc.false

pub returns-in-End : goal.returns-in-End
returns-in-End c =
    let front : List ℕ = take (c.edge-e.result - 0) c.args.s.now in
    let back : List ℕ = let s = c.args.s.now in
    let e = c.edge-e.result in
    take (length s - e) (drop e s) in
    let all : let a = c.args in
    has a.d (docs (run_at (front) (back) c.new-c.result)) ≡ has a.d (docs (body_run a.m a.s.now)) = let a = c.args in
    let s = a.s.now in
    let e = c.edge-e in
    body-all a.d a.m s (front) (back) c.new-c.result (front_of a.m s e.result e.ensures.0) (back_of a.m s e.result e.ensures.0) c.new-c.ensures in
    let l = c.loop-doc in
    let f : step_at (front) (back) l.c ≡ End = cc in
    sym (seek-none (run_end (front) (back) l.c f) l.invariant) ∙ all

pub returns-in-Bad : goal.returns-in-Bad
returns-in-Bad c =
    let front : List ℕ = take (c.edge-e.result - 0) c.args.s.now in
    let back : List ℕ = let s = c.args.s.now in
    let e = c.edge-e.result in
    take (length s - e) (drop e s) in
    let all : let a = c.args in
    has a.d (docs (run_at (front) (back) c.new-c.result)) ≡ has a.d (docs (body_run a.m a.s.now)) = let a = c.args in
    let s = a.s.now in
    let e = c.edge-e in
    body-all a.d a.m s (front) (back) c.new-c.result (front_of a.m s e.result e.ensures.0) (back_of a.m s e.result e.ensures.0) c.new-c.ensures in
    let l = c.loop-doc in
    let f : step_at (front) (back) l.c ≡ Bad = cc in
    sym (seek-none (run_bad (front) (back) l.c f) l.invariant) ∙ all
