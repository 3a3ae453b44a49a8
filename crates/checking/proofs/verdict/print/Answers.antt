-- `checking::verdict::print` meets its contract: the line of each answer. Assumes nothing.
use native.Mathlib.Omega.{arith}
use Rattle.model.specs.Refusal.{number}
use Rattle.model.proofs.Storing.{stored-holds}
use Rattle.lines.proofs.Sizes.{refusal-short}
use Rattle.checking.proofs.verdict.print.Goals as goal

pub put_refusal-requires : goal.put_refusal-requires
put_refusal-requires c = let r = c.in-Err.refusal in omega (arith, refusal-short (number r.fault) r.offset)

pub returns-in-Err : goal.returns-in-Err
returns-in-Err c =
    let r = c.in-Err.refusal in
    rw c.in-Err.is (stored-holds (omega (arith, c.requires, refusal-short (number r.fault) r.offset)) c.put_refusal.ensures)
