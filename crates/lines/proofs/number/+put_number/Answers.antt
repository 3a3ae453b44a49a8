-- `lines::number::put_number` meets its contract. It calls itself at a tenth of the number, so the number is its measure. Assumes nothing.
use native.Mathlib.Omega.{arith}
use Rattle.model.proofs.Storing.{stored-append, stored_as, stored-length}
use Rattle.lines.proofs.Decimals.{digit, number_more, last-size, more-size}
use Rattle.lines.proofs.number.+put_number.Goals as goal

pub put1-requires : goal.put1-requires
put1-requires t c = omega (arith, last-size c.args.n (omega arith))

pub returns-then-n-lt10 : goal.returns-then-n-lt10
returns-then-n-lt10 t c = stored_as (digit c.args.n (omega arith)) c.put1.ensures

pub put_number-p-requires : goal.put_number-p-requires
put_number-p-requires t c = (omega arith, omega (arith, more-size c.args.n (omega arith) (omega arith)))

pub put1-requires-2 : goal.put1-requires-2
put1-requires-2 t c = omega (arith, more-size c.args.n (omega arith) (omega arith), stored-length c.put_number-p.ensures, c.put_number-p.ensures.past)

pub returns : goal.returns
returns t c = stored_as (number_more c.args.n (omega arith) (omega arith)) (stored-append c.put_number-p.ensures c.put1-2.ensures)
