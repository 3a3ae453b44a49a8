use native.Mathlib.Omega.{arith}
use Rattle.rank.proofs.Rows.{open-whole}
use Rattle.rank.proofs.keep.open_at.Goals as goal

pub returns : goal.returns
returns c = rw c.copy_within.ensures.after (open-whole c.args.p c.args.end c.args.x c.args.a.now (omega arith) (omega arith))
