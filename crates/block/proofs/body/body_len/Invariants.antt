-- `block::body::body_len` meets its contract. The invariant: what is counted and what is left make the whole, as of a body that is no strip. Assumes nothing.
use Rattle.model.specs.Post.{postings, Rising}
use Rattle.model.proofs.Posts.{from}
use Rattle.block.specs.Body.{later_bytes, front_bytes}
use Prim.Native.Nat.{◌+◌, ◌*◌, ◌≤◌}
use mathlib.Core.Path.{◌≡◌}
use mathlib.Core.Bool.{false}
use lib.ListN.{length}
use Rattle.block.proofs.body.body_len.Given as goal

abbrev pub invariant-loop-d : goal.invariant-loop-d
invariant-loop-d l = Rising l.p (from (l.d-index + 1) l.docs l.scores) × (l.t ≤ 7 * (l.d-index + 1))
    × (l.t + length (later_bytes false l.p (from (l.d-index + 1) l.docs l.scores)) ≡ length (front_bytes false (postings l.docs l.scores)))
