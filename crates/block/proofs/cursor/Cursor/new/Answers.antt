-- `block::cursor::Cursor::new` meets its contract. Assumes nothing.
use Rattle.block.specs.Cursor.{fresh}
use mathlib.Core.Path.{refl}
use Rattle.block.proofs.cursor.Cursor.new.Goals as goal

pub returns : goal.returns
unfolding fresh
returns c = refl
