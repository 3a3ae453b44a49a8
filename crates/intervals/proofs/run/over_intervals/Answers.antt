-- `over_intervals` meets its contract: the state between two intervals. Assumes nothing.
use native.Mathlib.Omega.{arith}
use Prim.Native.Nat.{◌+◌, ◌-◌}
use mathlib.Core.Path.{refl}
use lib.ListN.{length, set, length-set}
use Rattle.intervals.proofs.Marks.{marks_filled}
use Rattle.intervals.proofs.Runnings.{opens-few, skip_past, skip_long, kth-none, ceilings-long, past-none, past_skip, past_rebase, past-few, past_next, past-places, past_enters, past-opens, past_open, past_stop, past-done}
use Rattle.intervals.proofs.run.over_intervals.Goals as goal

pub begin-requires : goal.begin-requires
begin-requires c = (c.requires.lists, refl)

pub idle-heads-requires : goal.idle-heads-requires
idle-heads-requires c = c.requires.weighted

pub skip_shut-i-requires : goal.skip_shut-i-requires
skip_shut-i-requires c = (omega arith, omega (arith, ceilings-long _ _ _ _ _ _ _ _ _ _ _ _ c.requires), c.requires.room)

pub loop-i-init : goal.loop-i-init
loop-i-init c =
    let ok = c.requires in
    let z = c.new-kept.ensures in
    let first = past-none _ _ _ _ _ _ _ _ _ _ _ _ ok _ _ _ _ _ _ z refl refl c.begin.ensures c.idle-heads.ensures refl in
    let r = past_skip _ _ _ _ _ _ _ _ _ _ _ _ ok _ _ _ _ _ _ _ _ _ _ first _ _ _ (kth-none c.args.k c.new-kept.result z) c.skip_shut-i.ensures in
    (past_rebase _ _ _ _ _ _ _ _ _ _ _ _ ok _ _ _ _ _ _ _ _ _ _ r.0, r.1)

pub offset_bounds-starts-i : goal.offset_bounds-starts-i
offset_bounds-starts-i c = omega (arith, c.loop-i-test.true, c.requires.few)

pub bounds-starts-i : goal.bounds-starts-i
bounds-starts-i c = c.loop-i-test.true

pub last_of-last-requires : goal.last_of-last-requires
last_of-last-requires c = (c.loop-i-test.true, past_next _ _ _ _ _ _ _ _ _ _ _ _ c.requires _ _ _ _ _ _ _ _ _ _ c.loop-i.invariant.0)

pub meet_all-requires : goal.meet_all-requires
meet_all-requires c = (past-places _ _ _ _ _ _ _ _ _ _ _ _ c.requires _ _ _ _ _ _ _ _ _ _ c.loop-i.invariant.0, c.loop-i.invariant.0.read)

pub open-turn-requires : goal.open-turn-requires
open-turn-requires c =
    let t = c.loop-i-test.true in
    let v = c.loop-i.invariant.0 in
    (past_enters _ _ _ _ _ _ _ _ _ _ _ _ c.requires _ _ _ _ _ _ _ _ _ _ v t _ _ c.meet_all.ensures, past-opens _ _ _ _ _ _ _ _ _ _ _ _ c.requires _ _ _ _ _ _ _ _ _ _ v t _ _ c.meet_all.ensures _ c.last_of-last.ensures)

pub bounds-marks-i : goal.bounds-marks-i
bounds-marks-i c =
    let v = c.loop-i.invariant.0 in
    omega (arith, c.loop-i-test.true, v.wide, v.same)

pub overflow_add-i : goal.overflow_add-i
overflow_add-i c = omega (arith, c.loop-i-test.true, c.requires.few)

pub shape_of-marks-in-Some : goal.shape_of-marks-in-Some
shape_of-marks-in-Some c =
    let l = c.loop-i in
    omega (arith, c.fill.ensures.len, length-set l.marks l.i 2, l.invariant.0.same, skip_long _ _ _ _ _ _ _ c.skip_shut-i.ensures)

pub returns-in-Some : goal.returns-in-Some
returns-in-Some c =
    let ok = c.requires in
    let l = c.loop-i in
    let t = c.loop-i-test.true in
    let n = length c.args.starts.now - (l.i + 1) in
    let rest = marks_filled (set l.marks l.i 2) c.fill.new.self (l.i + 1) n 3 (omega (arith, length-set l.marks l.i 2, l.invariant.0.wide, l.invariant.0.same)) (c.fill.ensures.after (λ y e. e)) in
    past_stop _ _ _ _ _ _ _ _ _ _ _ _ ok _ _ _ _ _ _ _ _ _ _ l.invariant.0 t _ _ c.meet_all.ensures (l.invariant.1 t) _ c.last_of-last.ensures _ _ _ c.open-turn.ensures _ _ c.in-Some.at c.in-Some.is (skip_past _ _ _ _ _ _ _ c.skip_shut-i.ensures) rest

pub overflow_add-opened : goal.overflow_add-opened
overflow_add-opened c =
    let l = c.loop-i in
    omega (arith, past-few _ _ _ _ _ _ _ _ _ _ _ _ c.requires _ _ _ _ _ _ _ _ _ _ l.invariant.0, opens-few _ _ _ _ _ _ _ _ _ _ _ _ _ _ _ _ _ _ _ c.open-turn.ensures)

pub bounds-marks-i-in-loop-i : goal.bounds-marks-i-in-loop-i
bounds-marks-i-in-loop-i c =
    let v = c.loop-i.invariant.0 in
    omega (arith, c.loop-i-test.true, v.wide, v.same)

pub kth_of-kth-requires : goal.kth_of-kth-requires
kth_of-kth-requires c = (c.open-turn.ensures.room, c.requires.most, c.requires.least)

pub overflow_add-i-in-loop-i : goal.overflow_add-i-in-loop-i
overflow_add-i-in-loop-i c = omega (arith, c.loop-i-test.true, c.requires.few)

pub skip_shut-i-requires-in-loop-i : goal.skip_shut-i-requires-in-loop-i
skip_shut-i-requires-in-loop-i c =
    let v = c.loop-i.invariant.0 in
    (omega (arith, c.loop-i-test.true), omega (arith, ceilings-long _ _ _ _ _ _ _ _ _ _ _ _ c.requires), simp length-set (omega (arith, v.wide, v.same)))

pub loop-i-smaller : goal.loop-i-smaller
loop-i-smaller c = omega (arith, c.loop-i-test.true, c.skip_shut-i-in-loop-i.ensures.on, c.skip_shut-i-in-loop-i.ensures.upto)

pub loop-i-preserved : goal.loop-i-preserved
loop-i-preserved c =
    let ok = c.requires in
    let l = c.loop-i in
    let t = c.loop-i-test.true in
    let o = past_open _ _ _ _ _ _ _ _ _ _ _ _ ok _ _ _ _ _ _ _ _ _ _ l.invariant.0 t _ _ c.meet_all.ensures (l.invariant.1 t) _ c.last_of-last.ensures _ _ _ c.open-turn.ensures c.in_default.is in
    past_skip _ _ _ _ _ _ _ _ _ _ _ _ ok _ _ _ _ _ _ _ _ _ _ o _ _ _ c.kth_of-kth.ensures c.skip_shut-i-in-loop-i.ensures

pub shape_of-marks : goal.shape_of-marks
shape_of-marks c = omega (arith, c.loop-i.invariant.0.same, skip_long _ _ _ _ _ _ _ c.skip_shut-i.ensures)

pub returns : goal.returns
returns c = past-done _ _ _ _ _ _ _ _ _ _ _ _ c.requires _ _ _ _ _ _ _ _ _ _ c.loop-i.invariant.0 _ c.loop-i-test.false (skip_past _ _ _ _ _ _ _ c.skip_shut-i.ensures)
