-- `list::list_len` meets its contract. The invariant: what is counted, with what the blocks take that are left, is the whole, in either layout. Assumes nothing.
use mathlib.Core.Path.{◌≡◌}
use mathlib.Core.Bool.{Bool}
use Prim.Native.Nat.{◌+◌}
use Rattle.model.specs.Post.{postings}
use Rattle.list.proofs.Packing.{Cut, posts_left, size_of}
use Rattle.list.proofs.write.list_len.Given as goal

abbrev pub invariant-loop-d : goal.invariant-loop-d
invariant-loop-d l = Cut l.d-iterator × ((strip : Bool) → l.n + size_of strip (posts_left l.d-iterator) ≡ 8 + size_of strip (postings l.docs l.scores))
