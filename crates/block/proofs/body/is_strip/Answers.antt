-- `block::body::is_strip` meets its contract: the tag that stands there, or none. Assumes nothing.
use Rattle.block.proofs.Bodies.{strip-there, strip-none}
use borrow.Author.Tests.{le-ltb}
use lib.ListN.{length}
use mathlib.Core.Path.{◌∙◌}
use Rattle.block.proofs.body.is_strip.Goals as goal

pub returns-then-at-s : goal.returns-then-at-s
returns-then-at-s c = strip-there c.args.s.now c.args.at

pub returns-else-at-s : goal.returns-else-at-s
returns-else-at-s c = le-ltb c.args.at (length c.args.s.now) c.if-at-s.false ∙ strip-none c.args.s.now c.args.at c.if-at-s.false
