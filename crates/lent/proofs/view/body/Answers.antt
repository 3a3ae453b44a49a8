-- `lent::view::body` meets its contract: what is shown stands within the shelf, so its part may be taken. Assumes nothing.
use mathlib.Core.Path.{refl}
use native.Mathlib.Omega.{arith}
use Rattle.lent.proofs.Parts.{shown_inside}
use Rattle.lent.proofs.view.body.Goals as goal

pub slice_bounds-bytes-count : goal.slice_bounds-bytes-count
slice_bounds-bytes-count g c = let inside = shown_inside _ _ _ _ _ c.in_ok-at.ensures in omega (arith, inside.0)

pub slice_bounds-bytes-start : goal.slice_bounds-bytes-start
slice_bounds-bytes-start g c = let inside = shown_inside _ _ _ _ _ c.in_ok-at.ensures in omega (arith, inside.0)

pub slice_bounds-bytes-end : goal.slice_bounds-bytes-end
slice_bounds-bytes-end g c = let inside = shown_inside _ _ _ _ _ c.in_ok-at.ensures in omega (arith, inside.1)

pub returns : goal.returns
returns g c = record { span = c.in_ok-at.ensures; part = record { bytes = refl; block = refl; place = omega arith } }
