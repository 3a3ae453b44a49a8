-- `lines::rows::put_hits` meets its contract. The invariant: to store the lines that are left from here gives what is asked. Assumes nothing.
use Rattle.model.specs.Post.{postings}
use Rattle.model.proofs.Storing.{Rest}
use Rattle.lines.specs.Text.{hit_lines}
use lib.ListN.{length, take, drop}
use Prim.Native.Nat.{◌+◌}
use Rattle.lines.proofs.rows.put_hits.Given as goal

abbrev pub invariant-loop-i : goal.invariant-loop-i
invariant-loop-i l =
    Rest l.initial.out l.out l.at l.j (hit_lines 1 (take l.n (postings l.docids l.scores))) (hit_lines (length l.yielded + 1) (drop (length l.yielded) (take l.n (postings l.docids l.scores))))
