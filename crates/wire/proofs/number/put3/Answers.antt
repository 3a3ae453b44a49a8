-- `wire::put3` meets its contract: the three bytes, put over what stood there. Assumes nothing.
use Rattle.model.proofs.Storing.{stored_over}
use Rattle.wire.specs.Number.{be}
use Rattle.wire.proofs.Numbers.{be-length, be_3}
use Prim.Native.Nat.{ℕ, ◌+◌, ◌-◌}
use native.Mathlib.Omega.{arith}
use mathlib.Core.List.{List}
use mathlib.Core.Path.{ap, ◌∙◌}
use lib.ListN.{take, drop}
use Rattle.wire.proofs.number.put3.Goals as goal

pub returns : goal.returns
returns c =
    let a = c.args in
    stored_over a.out.now (be 3 a.x) c.copy_from_slice.new.self a.at 3 (a.at + 3 - a.at) (c.copy_from_slice.ensures.after ∙ ap (λ (t : List ℕ). take 3 (drop 1 t)) c.to_be_bytes.ensures ∙ be_3 a.x) (be-length 3 a.x) (omega arith) (omega arith)
