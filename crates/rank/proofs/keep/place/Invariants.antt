-- `place` meets its contract. The invariant: the hit is behind all rows before `low`, and ahead of the one at `high`, if there is one. Assumes nothing.
use Prim.Native.Nat.{◌≤◌, ◌<◌, ◌-◌}
use mathlib.Core.Path.{◌≡◌}
use mathlib.Core.Bool.{true, false}
use lib.ListN.{take, get_or}
use Rattle.model.specs.Post.{post, postings}
use Rattle.model.specs.Runs.{All}
use Rattle.rank.specs.Rank.{ahead}
use Rattle.rank.proofs.keep.place.Given as goal

abbrev pub invariant-loop-low : goal.invariant-loop-low
invariant-loop-low l = (l.low ≤ l.high) × (l.high ≤ l.n) × All (λ x. ahead (post l.d l.s) x ≡ false) (take l.low (take l.n (postings l.docids l.scores)))
    × (l.high < l.n → ahead (post l.d l.s) (get_or (take l.n (postings l.docids l.scores)) l.high (post 0 0)) ≡ true)

abbrev pub decreases-loop-low : goal.decreases-loop-low
decreases-loop-low l = l.high - l.low
