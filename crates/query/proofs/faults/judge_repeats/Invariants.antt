-- `query::faults::judge_repeats` meets its contract. The invariant: the answer for all is the answer for those that are left. Assumes nothing.
use Rattle.query.specs.Query.{terms_in, unrepeated}
use mathlib.Core.Path.{◌≡◌}
use mathlib.Core.List.{[]}
use lib.ListN.{drop}
use Rattle.query.proofs.Judging.{unrepeated_from}
use Rattle.query.proofs.faults.judge_repeats.Given as goal

abbrev pub invariant-loop-i : goal.invariant-loop-i
invariant-loop-i l = unrepeated [] 0 (terms_in l.n (drop 4 l.q)) ≡ unrepeated_from l.n l.i l.q
