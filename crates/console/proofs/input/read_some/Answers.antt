-- What `read_some` answers, as it was judged. Assumes nothing.
use Rattle.console.proofs.Judged.{moving_judged}
use Rattle.console.proofs.input.read_some.Goals as goal

pub returns : goal.returns
returns g c = moving_judged _ _ c.answered.result c.requires c.answered.ensures
