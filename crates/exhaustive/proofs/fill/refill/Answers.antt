-- `refill` meets its contract: the laws of `Refills`, one for each way out. Assumes nothing.
use native.Mathlib.Omega.{arith}
use Rattle.exhaustive.proofs.Refills.{refill_stands, load_ok, refill-next}
use Rattle.exhaustive.proofs.fill.refill.Goals as goal

pub returns-then-head-lt-END : goal.returns-then-head-lt-END
returns-then-head-lt-END c = refill_stands _ _ _ _ _ _ c.requires c.if-head-lt-END.true

pub load-requires : goal.load-requires
load-requires c =
    let f = c.in-Some.ensures in
    load_ok _ _ _ _ _ _ c.requires (λ i. omega (arith, c.type_inv.shelf i)) f.0 _ _ _ _ f.1 f.2

pub returns : goal.returns
returns c =
    let f = c.in-Some.ensures in
    refill-next _ _ _ _ _ _ c.requires (λ i. omega (arith, c.type_inv.shelf i)) f.0 _ _ _ _ f.1 f.2 _ _ c.in_ok-loaded.loaded c.if-head-lt-END.false c.in_ok-loaded.ensures
