-- `block::body::body_len` meets its contract. The invariant: what is counted and what is left make the whole, as of a body that is no strip. Assumes nothing.
use Rattle.model.specs.Post.{postings, Rising}
use Rattle.model.proofs.Storing.{part_end}
use Rattle.model.proofs.Posts.{from, from_cons, even_tail}
use Rattle.wire.proofs.Gaps.{in_length}
use Rattle.block.proofs.Bodies.{Turn, turn, turn-size, later-none, body-even, body-size}
use Prim.Native.Nat.{ℕ, ◌+◌, ◌-◌, ◌<◌}
use native.Mathlib.Omega.{arith}
use mathlib.Core.Path.{◌≡◌, sym, ap, ◌∙◌}
use mathlib.Core.Bool.{false}
use mathlib.Core.List.{List}
use lib.ListN.{length, get_or, take, drop, length-drop}
use lib.Seq.{get_or-drop}
use Rattle.block.proofs.body.body_len.Goals as goal

-- the docids past the first, as the loop has them
abbrev later : List ℕ → List ℕ
later ds = take (length ds - 1) (drop 1 ds)

later_length : (ds : List ℕ) → length (later ds) ≡ length ds - 1
later_length ds = ap length (part_end 1 ds) ∙ length-drop 1 ds

later_at : (ds : List ℕ) (i : ℕ) → get_or (later ds) i 0 ≡ get_or ds (i + 1) 0
later_at ds i =
    let e : 1 + i ≡ i + 1 = omega arith in
    ap (λ (t : List ℕ). get_or t i 0) (part_end 1 ds) ∙ get_or-drop 1 ds i 0 ∙ ap (λ (n : ℕ). get_or ds n 0) e

pub loop-d-init : goal.loop-d-init
loop-d-init c =
    let q = c.requires in
    let ds = c.args.docs.now in
    let ss = c.args.scores.now in
    ((even_tail 0 ds ss q.0 q.2).rise, omega arith, sym (body-size ds ss q.2.same q.0))

-- the turn at the docid that the loop is at

here : (p i : ℕ) (ds ss : List ℕ) → length ds ≡ length ss → i < length (later ds) → Rising p (from (i + 1) ds ss) → Turn p (get_or (later ds) i 0) (get_or ss (i + 1) 0) (from (i + 1) ds ss) (from (i + 1 + 1) ds ss)
here p i ds ss e h r =
    let in_range : i + 1 < length ds = omega (arith, later_length ds) in
    rw (later_at ds i) (turn p (get_or ds (i + 1) 0) (get_or ss (i + 1) 0) (from (i + 1) ds ss) (from (i + 1 + 1) ds ss) (from_cons (i + 1) ds ss e in_range) r)

pub overflow_sub-d : goal.overflow_sub-d
overflow_sub-d c =
    omega (arith, (here c.loop-d.p c.loop-d.d-index c.args.docs.now c.args.scores.now c.requires.2.same c.loop-d-test.true c.loop-d.invariant.0).above)

pub overflow_sub-d-in-loop-d : goal.overflow_sub-d-in-loop-d
overflow_sub-d-in-loop-d c =
    omega (arith, (here c.loop-d.p c.loop-d.d-index c.args.docs.now c.args.scores.now c.requires.2.same c.loop-d-test.true c.loop-d.invariant.0).above)

pub overflow_add-t : goal.overflow_add-t
overflow_add-t c = omega (arith, c.gap_len.ensures, in_length 5 (get_or (later c.args.docs.now) c.loop-d.d-index 0 - c.loop-d.p - 1))

pub overflow_add-t-in-loop-d : goal.overflow_add-t-in-loop-d
overflow_add-t-in-loop-d c =
    omega (arith, c.gap_len.ensures, c.loop-d-test.true, later_length c.args.docs.now, in_length 5 (get_or (later c.args.docs.now) c.loop-d.d-index 0 - c.loop-d.p - 1))

pub loop-d-preserved : goal.loop-d-preserved
loop-d-preserved c =
    let a = c.args in
    let l = c.loop-d in
    let i = l.d-index in
    let d = get_or (later a.docs.now) i 0 in
    let t = here l.p i a.docs.now a.scores.now c.requires.2.same c.loop-d-test.true l.invariant.0 in (
      t.rise,
      omega (arith, c.gap_len.ensures, in_length 5 (d - l.p - 1)),
      omega (arith, c.gap_len.ensures, turn-size l.p d (get_or a.scores.now (i + 1) 0) (from (i + 1) a.docs.now a.scores.now) (from (i + 1 + 1) a.docs.now a.scores.now) t, l.invariant.2),
    )

pub returns : goal.returns
returns c strip =
    let a = c.args in
    let l = c.loop-d in
    omega (arith, l.invariant.2, ap length (later-none false l.p (l.d-index + 1) a.docs.now a.scores.now (omega (arith, c.loop-d-test.false, later_length a.docs.now))), body-even strip (postings a.docs.now a.scores.now))
