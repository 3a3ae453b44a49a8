-- `query::faults::judge_weights` meets its contract. The invariant: the answer for all is the answer for those that are left. Assumes nothing.
use mathlib.Core.Path.{◌≡◌}
use lib.ListN.{drop}
use Rattle.query.specs.Query.{terms_in, weighted}
use Rattle.query.proofs.Judging.{weighted_from}
use Rattle.query.proofs.faults.judge_weights.Given as goal

abbrev pub invariant-loop-i : goal.invariant-loop-i
invariant-loop-i l = weighted 0 (terms_in l.n (drop 4 l.q)) ≡ weighted_from l.n l.i l.q
