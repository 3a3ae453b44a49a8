-- `raise_all` meets its contract: what is raised and what is left to raise, and a place that no interval to come lies before. Assumes nothing.
use Prim.Native.Nat.{◌≤◌, ◌<◌}
use lib.ListN.{length, take, get_or}
use Rattle.model.specs.Runs.{All}
use Rattle.prune.specs.Gather.{blocks_of}
use Rattle.prune.proofs.Books.{Raising}
use Rattle.prune.proofs.ceiling.raise_all.Given as goal

abbrev pub invariant-loop-k : goal.invariant-loop-k
invariant-loop-k l = Raising l.w (blocks_of l.los l.his l.tops) l.starts l.initial.out l.out l.k × (l.j ≤ length l.his) × (l.k < length l.starts → All (λ g. g < get_or l.starts l.k 0) (take l.j l.his))
