-- `wire::put4` meets its contract: the four bytes, put over what stood there. Assumes nothing.
use Rattle.model.proofs.Storing.{stored_over}
use Rattle.wire.specs.Number.{be}
use Rattle.wire.proofs.Numbers.{be-length, be_4}
use Prim.Native.Nat.{◌+◌, ◌-◌}
use native.Mathlib.Omega.{arith}
use mathlib.Core.Path.{◌∙◌}
use Rattle.wire.proofs.number.put4.Goals as goal

pub returns : goal.returns
returns c =
    let a = c.args in
    stored_over a.out.now (be 4 a.x) c.copy_from_slice.new.self a.at 4 (a.at + 4 - a.at) (c.copy_from_slice.ensures.after ∙ c.to_be_bytes.ensures ∙ be_4 a.x) (be-length 4 a.x) (omega arith) (omega arith)
