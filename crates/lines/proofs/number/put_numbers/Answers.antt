-- `lines::number::put_numbers` meets its contract. The invariant: to store what is left of the numbers from here gives what is asked. Assumes nothing.
use Rattle.model.proofs.Storing.{stored-append, stored-length, rest-turn, rest-room, rest_end}
use Rattle.lines.specs.Text.{codes, decimal, numbers}
use Rattle.lines.proofs.Decimals.{numbers_more, numbers-none}
use lib.ListN.{drop, get_or}
use Prim.Native.Nat.{◌+◌}
use native.Mathlib.Omega.{arith}
use mathlib.Core.List.{◌++◌}
use Rattle.lines.proofs.number.put_numbers.Goals as goal

pub put_word-j-requires : goal.put_word-j-requires
put_word-j-requires c =
    let ns = c.args.ns.now in
    let l = c.loop-n in
    omega (arith, rest-room (codes " " ++ decimal (get_or ns l.n-index 0)) (numbers (drop (l.n-index + 1) ns)) (numbers_more ns l.n-index c.loop-n-test.true) l.invariant c.requires)

pub put_number-j-requires : goal.put_number-j-requires
put_number-j-requires c =
    let ns = c.args.ns.now in
    let l = c.loop-n in
    let room = rest-room (codes " " ++ decimal (get_or ns l.n-index 0)) (numbers (drop (l.n-index + 1) ns)) (numbers_more ns l.n-index c.loop-n-test.true) l.invariant c.requires in
    omega (arith, room, stored-length c.put_word-j.ensures, c.put_word-j.ensures.past)

pub loop-n-preserved : goal.loop-n-preserved
loop-n-preserved c =
    let ns = c.args.ns.now in
    let l = c.loop-n in
    rest-turn (codes " " ++ decimal (get_or ns l.n-index 0)) (numbers (drop (l.n-index + 1) ns)) (numbers_more ns l.n-index c.loop-n-test.true) l.invariant (stored-append c.put_word-j.ensures c.put_number-j.ensures)

pub returns : goal.returns
returns c = rest_end (numbers-none c.args.ns.now c.loop-n.n-index (omega arith)) c.loop-n.invariant
