-- `wire::put2` meets its contract: the two bytes, put over what stood there. Assumes nothing.
use Rattle.model.proofs.Storing.{stored_over}
use Rattle.wire.specs.Number.{be}
use Rattle.wire.proofs.Numbers.{be-length, be_2}
use Prim.Native.Nat.{◌+◌, ◌-◌}
use native.Mathlib.Omega.{arith}
use mathlib.Core.Path.{◌∙◌}
use Rattle.wire.proofs.number.put2.Goals as goal

pub returns : goal.returns
returns c =
    let a = c.args in
    stored_over a.out.now (be 2 a.x) c.copy_from_slice.new.self a.at 2 (a.at + 2 - a.at) (c.copy_from_slice.ensures.after ∙ c.to_be_bytes.ensures ∙ be_2 a.x) (be-length 2 a.x) (omega arith) (omega arith)
