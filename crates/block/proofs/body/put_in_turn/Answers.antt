-- `block::body::put_in_turn` meets its contract: nothing of a strip, else the two bytes. Assumes nothing.
use Rattle.wire.proofs.Numbers.{be-length}
use Rattle.block.specs.Body.{in_turn}
use native.Mathlib.Omega.{arith}
use mathlib.Core.Path.{ap}
use mathlib.Core.Bool.{Bool}
use lib.ListN.{length}
use Rattle.block.proofs.body.put_in_turn.Goals as goal

pub put2-requires : goal.put2-requires
put2-requires c =
    let a = c.args in
    omega (arith, c.requires, ap (λ (b : Bool). length (in_turn b a.score)) c.if-strip.false, be-length 2 a.score)
