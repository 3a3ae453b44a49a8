-- `shelf::walk::Walk::new` meets its contract. Assumes nothing.
use mathlib.Core.Path.{refl}
use Rattle.shelf.specs.Cursor.{start}
use Rattle.shelf.proofs.walk.Walk.new.Goals as goal

pub returns : goal.returns
unfolding start
returns c = refl
