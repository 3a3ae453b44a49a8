-- `wire::put_head` meets its contract: two stores, one after the other. Assumes nothing.
use Rattle.model.proofs.Storing.{stored-append, stored_as, stored-length}
use Rattle.wire.specs.Number.{be}
use Rattle.wire.proofs.Numbers.{be-length, be-one}
use Prim.Native.Nat.{ℕ}
use native.Mathlib.Omega.{arith}
use mathlib.Core.Path.{ap}
use mathlib.Core.List.{List, ◌++◌}
use Rattle.wire.proofs.field.put_head.Goals as goal

pub put2-requires : goal.put2-requires
put2-requires c = omega (arith, stored-length c.put1-p.ensures, be-length 1 c.args.tag)

pub returns : goal.returns
returns c =
    let a = c.args in
    stored_as (ap (λ (l : List ℕ). l ++ be 2 a.n) (be-one a.tag (omega arith))) (stored-append c.put1-p.ensures c.put2.ensures)
