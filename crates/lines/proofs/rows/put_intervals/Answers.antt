-- `lines::rows::put_intervals` meets its contract. The invariant: to store the lines that are left from here gives what is asked. Assumes nothing.
use Rattle.model.specs.Limits.{max_docid}
use Rattle.model.proofs.Storing.{rest-turn, rest-room, rest_end}
use Rattle.lines.specs.Text.{interval_line, interval_lines}
use Rattle.lines.proofs.Printing.{intervals-more, intervals-none}
use lib.ListN.{drop, get_or}
use Prim.Native.Nat.{◌+◌}
use native.Mathlib.Omega.{arith}
use mathlib.Core.List.{◌++◌}
use mathlib.Core.Path.{◌≡◌}
use Rattle.lines.proofs.rows.put_intervals.Goals as goal

pub put_interval-j-requires : goal.put_interval-j-requires
put_interval-j-requires c =
    let i = c.loop-i.i in
    let fs = c.args.firsts.now in
    let cs = c.args.ceilings.now in
    let ms = c.args.marks.now in
    let p = c.requires.0 in
    let next : interval_lines max_docid (drop i fs) (drop i cs) (drop i ms)
    ≡ interval_line (get_or fs i 0) c.last_docid-last.result (get_or cs i 0) (get_or ms i 0) ++ interval_lines max_docid (drop (i + 1) fs) (drop (i + 1) cs) (drop (i + 1) ms) =
    rw c.last_docid-last.ensures (intervals-more max_docid i fs cs ms p.ceilings p.marks c.loop-i-test.true) in
    rest-room (interval_line (get_or fs i 0) c.last_docid-last.result (get_or cs i 0) (get_or ms i 0)) _ (next) c.loop-i.invariant c.requires.1

pub loop-i-preserved : goal.loop-i-preserved
loop-i-preserved c =
    let i = c.loop-i.i in
    let fs = c.args.firsts.now in
    let cs = c.args.ceilings.now in
    let ms = c.args.marks.now in
    let p = c.requires.0 in
    let next : interval_lines max_docid (drop i fs) (drop i cs) (drop i ms)
    ≡ interval_line (get_or fs i 0) c.last_docid-last.result (get_or cs i 0) (get_or ms i 0) ++ interval_lines max_docid (drop (i + 1) fs) (drop (i + 1) cs) (drop (i + 1) ms) =
    rw c.last_docid-last.ensures (intervals-more max_docid i fs cs ms p.ceilings p.marks c.loop-i-test.true) in
    rest-turn _ _ (next) c.loop-i.invariant c.put_interval-j.ensures

pub returns : goal.returns
returns c = let a = c.args in rest_end (intervals-none max_docid c.loop-i.i a.firsts.now a.ceilings.now a.marks.now (omega arith)) c.loop-i.invariant
