-- `block::body::put_strip` meets its contract. The invariant: to store what is left of the scores from here gives what is asked. Assumes nothing.
use Rattle.model.specs.Post.{postings}
use Rattle.model.proofs.Storing.{rest-start, rest-turn, rest-room, rest_end}
use Rattle.model.proofs.Posts.{from}
use Rattle.wire.specs.Number.{be}
use Rattle.wire.proofs.Numbers.{be-length}
use Rattle.block.specs.Body.{back_bytes}
use Rattle.block.proofs.Bodies.{back_turn, back_none, back_plain}
use Prim.Native.Nat.{◌+◌, ◌≤◌}
use native.Mathlib.Omega.{arith}
use mathlib.Core.Path.{◌≡◌, ap, ◌∙◌}
use mathlib.Core.Bool.{Bool}
use mathlib.Core.List.{◌++◌}
use lib.ListN.{length, get_or}
use Rattle.block.proofs.body.put_strip.Goals as goal

pub returns-then-not-strip : goal.returns-then-not-strip
returns-then-not-strip c =
    let a = c.args in
    let ps = postings a.docs.now a.scores.now in
    rest_end (ap (λ (b : Bool). back_bytes b ps) c.if-not-strip.true ∙ back_plain ps) (rest-start a.out.now a.at (back_bytes a.strip ps))

pub put2-j-requires : goal.put2-j-requires
put2-j-requires c =
    let here : let a = c.args in
    let i = c.loop-s.s-index in
    back_bytes a.strip (from i a.docs.now a.scores.now) ≡ be 2 (get_or a.scores.now i 0) ++ back_bytes a.strip (from (i + 1) a.docs.now a.scores.now) = let a = c.args in
    back_turn a.strip c.loop-s.s-index a.docs.now a.scores.now c.if-not-strip.false c.requires.0 (omega (arith, c.loop-s-test.true, c.requires.0)) in
    let room : c.loop-s.j + 2 ≤ length c.loop-s.out = let a = c.args in
    let i = c.loop-s.s-index in
    let w = get_or a.scores.now i 0 in
    omega (arith, rest-room (be 2 w) (back_bytes a.strip (from (i + 1) a.docs.now a.scores.now)) (here) c.loop-s.invariant c.requires.1, be-length 2 w) in
    room

pub loop-s-preserved : goal.loop-s-preserved
loop-s-preserved c =
    let here : let a = c.args in
    let i = c.loop-s.s-index in
    back_bytes a.strip (from i a.docs.now a.scores.now) ≡ be 2 (get_or a.scores.now i 0) ++ back_bytes a.strip (from (i + 1) a.docs.now a.scores.now) = let a = c.args in
    back_turn a.strip c.loop-s.s-index a.docs.now a.scores.now c.if-not-strip.false c.requires.0 (omega (arith, c.loop-s-test.true, c.requires.0)) in
    let a = c.args in
    let i = c.loop-s.s-index in
    rest-turn (be 2 (get_or a.scores.now i 0)) (back_bytes a.strip (from (i + 1) a.docs.now a.scores.now)) (here) c.loop-s.invariant c.put2-j.ensures

pub returns : goal.returns
returns c =
    let a = c.args in
    rest_end (back_none a.strip c.loop-s.s-index a.docs.now a.scores.now (omega (arith, c.loop-s-test.false, c.requires.0))) c.loop-s.invariant
