-- What `write_some` answers, as it was judged and sent. Assumes nothing.
use Rattle.std.proofs.Common.{length}
use Rattle.console.proofs.Judged.{moving_judged, moving_sent}
use Rattle.console.proofs.output.write_some.Goals as goal

pub returns : goal.returns
returns g c =
    let size = length c.args.bytes.now in
    moving_sent c.answered.result size c.sent.result (moving_judged _ size c.answered.result c.requires c.answered.ensures) c.sent.ensures
