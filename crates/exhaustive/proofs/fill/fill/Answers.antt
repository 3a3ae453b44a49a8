-- `fill` meets its contract: the lists are brought on one after another (`Fillings`). Assumes nothing.
use native.Mathlib.Omega.{arith}
use Rattle.std.proofs.lemmas.Result.{err_from_is_err_and}
use Rattle.exhaustive.proofs.Fillings.{line_at, filling_turn, filling_wrong, filling_done}
use Rattle.exhaustive.proofs.fill.fill.Goals as goal

pub refill-requires : goal.refill-requires
refill-requires c =
    line_at _ _ _ c.loop-t.hs c.loop-t.ls c.loop-t.t (omega arith) c.loop-t.invariant.lines

pub returns-in_err-h : goal.returns-in_err-h
returns-in_err-h c =
    let p = err_from_is_err_and c.from_residual.result c.from_residual.ensures.1 in
    rw p.1 (filling_wrong _ _ _ _ _ _ _ c.loop-t.hs c.loop-t.ls c.loop-t.t c.loop-t.invariant c.in_err-h.ensures (omega arith))

pub loop-t-preserved : goal.loop-t-preserved
loop-t-preserved c =
    filling_turn _ _ _ _ _ _ _ c.loop-t.hs c.loop-t.ls c.loop-t.t c.loop-t.invariant (omega arith) _ _ c.in_ok-h.h c.in_ok-h.l c.in_ok-h.ensures

pub returns : goal.returns
returns c = filling_done _ _ _ _ _ _ _ c.loop-t.hs c.loop-t.ls c.loop-t.t c.loop-t.invariant (omega arith)
