-- `open` meets its contract: the search stops here, or goes on past the interval. Assumes nothing.
use native.Mathlib.Omega.{arith}
use Rattle.opening.proofs.Turns.{open_asks, open-stopped, open_done}
use Prim.Native.Nat.{ℕ}
use mathlib.Core.Path.{◌≡◌, refl, sym, ◌∙◌}
use mathlib.Core.Bool.{Bool, true, false, false≢true}
use Rattle.std.specs.Prelude.{Option, Some, None, is_some}
use Rattle.opening.proofs.turn.open.Goals as goal

some-is : (w : Option ℕ) (b : Bool) → b ≡ is_some w → b ≡ true → (o : ℕ) × (w ≡ Some o)
some-is (Some o) b e f = (o, refl)
some-is None b e f = absurd (false≢true (sym e ∙ f))

none-is : (w : Option ℕ) (b : Bool) → b ≡ is_some w → b ≡ false → w ≡ None
none-is (Some o) b e f = absurd (false≢true (sym f ∙ e))
none-is None b e f = refl

pub enter_all-fresh-requires : goal.enter_all-fresh-requires
enter_all-fresh-requires c = c.requires.0

pub returns-then-is_some : goal.returns-then-is_some
returns-then-is_some c = open-stopped _ _ _ _ _ _ (λ i. omega (arith, c.shared_slice_known-1.given i)) _ _ _ _ _ _ _ _ _ _ _ _ c.requires.0 c.requires.1 _ _ _ c.enter_all-fresh.ensures (some-is _ _ c.is_some.ensures c.if-is_some.true).0 (some-is _ _ c.is_some.ensures c.if-is_some.true).1

pub interval-requires : goal.interval-requires
interval-requires c = open_asks _ _ _ _ _ _ (λ i. omega (arith, c.shared_slice_known-1.given i)) _ _ _ _ _ _ _ _ _ _ _ _ c.requires.0 c.requires.1 _ _ _ c.enter_all-fresh.ensures

pub returns : goal.returns
returns c = open_done _ _ _ _ _ _ (λ i. omega (arith, c.shared_slice_known-1.given i)) _ _ _ _ _ _ _ _ _ _ _ _ c.requires.0 c.requires.1 _ _ _ c.enter_all-fresh.ensures _ _ c.interval.ensures (none-is _ _ c.is_some.ensures c.if-is_some.false)
