-- `lines::number::put_numbers` meets its contract. The invariant: to store what is left of the numbers from here gives what is asked. Assumes nothing.
use Rattle.model.proofs.Storing.{Rest}
use Rattle.lines.specs.Text.{numbers}
use lib.ListN.{drop}
use Rattle.lines.proofs.number.put_numbers.Given as goal

abbrev pub invariant-loop-n : goal.invariant-loop-n
invariant-loop-n l = Rest l.initial.out l.out l.at l.j (numbers l.ns) (numbers (drop l.n-index l.ns))
