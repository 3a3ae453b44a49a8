-- `over_blocks` meets its contract, step by step. Assumes nothing.
use Prim.Native.Nat.{◌+◌}
use mathlib.Core.Path.{refl, sym, ◌∙◌}
use lib.ListN.{length}
use native.Mathlib.Omega.{arith}
use Rattle.intervals.proofs.Bookings.{blocks_fine, cuts-few, blocks-raise, blocks-run, blocks-done, blocks-short, size_is, room_of}
use Prim.Native.Nat.{ℕ}
use mathlib.Core.Path.{ap}
use Rattle.model.specs.Refusal.{refusal}
use Rattle.model.specs.declared.refusal.Fault.TheVariants as fault
use Rattle.intervals.proofs.blocks.over_blocks.Goals as goal

pub all_cuts-m-requires : goal.all_cuts-m-requires
all_cuts-m-requires c = (blocks_fine _ _ _ _ _ _ _ _ _ c.requires, omega arith, omega (arith, c.requires.short), omega arith)

pub overflow_add-n : goal.overflow_add-n
overflow_add-n c =
    let k = c.all_cuts-m.auto.run in
    omega (arith, cuts-few _ _ _ _ _ _ _ _ _ c.requires _ _ _ c.all_cuts-m.ensures k, k)

pub fill_firsts-requires : goal.fill_firsts-requires
fill_firsts-requires c =
    let k = c.all_cuts-m.auto.run in
    let q = room_of (c.all_cuts-m.result + 1) (length c.args.firsts.now) (length c.args.ceilings.now) (length c.args.marks.now) (sym c.has_room.ensures ∙ c.if-not-has_room.false) in
    (cuts-few _ _ _ _ _ _ _ _ _ c.requires _ _ _ c.all_cuts-m.ensures k, omega (arith, q.0))

pub slice_bounds-fill_ceilings-end : goal.slice_bounds-fill_ceilings-end
slice_bounds-fill_ceilings-end c =
    let q = room_of (c.all_cuts-m.result + 1) (length c.args.firsts.now) (length c.args.ceilings.now) (length c.args.marks.now) (sym c.has_room.ensures ∙ c.if-not-has_room.false) in
    omega (arith, q.0, c.fill_firsts.auto.firsts)

pub fill_ceilings-requires : goal.fill_ceilings-requires
fill_ceilings-requires c =
    let k = c.all_cuts-m.auto.run in
    blocks-raise _ _ _ _ _ _ _ _ _ c.requires _ _ _ c.all_cuts-m.ensures _ _ c.fill_firsts.ensures _ (omega (arith, cuts-few _ _ _ _ _ _ _ _ _ c.requires _ _ _ c.all_cuts-m.ensures k, k)) refl

pub copy_run-requires : goal.copy_run-requires
copy_run-requires c =
    let k = c.all_cuts-m.auto.run in
    let q = room_of (c.all_cuts-m.result + 1) (length c.args.firsts.now) (length c.args.ceilings.now) (length c.args.marks.now) (sym c.has_room.ensures ∙ c.if-not-has_room.false) in
    (omega (arith, cuts-few _ _ _ _ _ _ _ _ _ c.requires _ _ _ c.all_cuts-m.ensures k, k, c.fill_ceilings.auto.out), q.1)

pub slice_bounds-over_intervals-end : goal.slice_bounds-over_intervals-end
slice_bounds-over_intervals-end c =
    let q = room_of (c.all_cuts-m.result + 1) (length c.args.firsts.now) (length c.args.ceilings.now) (length c.args.marks.now) (sym c.has_room.ensures ∙ c.if-not-has_room.false) in
    omega (arith, q.0, c.fill_firsts.auto.firsts)

pub slice_bounds-over_intervals-end-2 : goal.slice_bounds-over_intervals-end-2
slice_bounds-over_intervals-end-2 c =
    let k = c.all_cuts-m.auto.run in
    omega (arith, cuts-few _ _ _ _ _ _ _ _ _ c.requires _ _ _ c.all_cuts-m.ensures k, k, c.fill_ceilings.auto.out)

pub over_intervals-found-requires : goal.over_intervals-found-requires
over_intervals-found-requires c =
    let k = c.all_cuts-m.auto.run in
    let q = room_of (c.all_cuts-m.result + 1) (length c.args.firsts.now) (length c.args.ceilings.now) (length c.args.marks.now) (sym c.has_room.ensures ∙ c.if-not-has_room.false) in
    blocks-run _ _ _ _ _ _ _ _ _ c.requires _ _ _ c.all_cuts-m.ensures _ _ c.fill_firsts.ensures _ _ c.fill_ceilings.ensures _ q.2 (omega (arith, cuts-few _ _ _ _ _ _ _ _ _ c.requires _ _ _ c.all_cuts-m.ensures k, k))

pub returns-then-not-has_room : goal.returns-then-not-has_room
returns-then-not-has_room c =
    rw (c.from.ensures, c.at.ensures) (blocks-short _ _ _ _ _ _ _ _ _ c.requires _ _ _ c.all_cuts-m.ensures _ _ _ (sym c.has_room.ensures ∙ c.if-not-has_room.true))

pub returns-in-Ok : goal.returns-in-Ok
returns-in-Ok c =
    let n = size_is _ _ _ _ _ _ _ _ _ c.requires _ _ _ c.all_cuts-m.ensures _ _ c.fill_firsts.ensures in
    blocks-done _ _ _ _ _ _ _ _ _ c.requires _ _ _ c.all_cuts-m.ensures _ _ c.fill_firsts.ensures _ _ c.fill_ceilings.ensures _ _ _ _ _ _ (sym c.has_room.ensures ∙ c.if-not-has_room.false) c.copy_run.ensures (n, c.in-Ok.ensures)

pub returns-in-Err : goal.returns-in-Err
returns-in-Err c =
    let n = size_is _ _ _ _ _ _ _ _ _ c.requires _ _ _ c.all_cuts-m.ensures _ _ c.fill_firsts.ensures in
    rw c.at-in-Err.ensures (blocks-done _ _ _ _ _ _ _ _ _ c.requires _ _ _ c.all_cuts-m.ensures _ _ c.fill_firsts.ensures _ _ c.fill_ceilings.ensures _ _ _ _ _ _ (sym c.has_room.ensures ∙ c.if-not-has_room.false) c.copy_run.ensures
    (c.in-Err.at, ap (λ (x : ℕ). record { refusal = refusal fault.Body c.in-Err.at; intervals = x }) n, c.in-Err.ensures))
