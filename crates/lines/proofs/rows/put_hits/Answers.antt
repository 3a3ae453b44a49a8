-- `lines::rows::put_hits` meets its contract. The invariant: to store the lines that are left from here gives what is asked. Assumes nothing.
use Rattle.std.proofs.lemmas.Iterator.{YieldsList-from_slice, YieldsList-from_take, YieldsList-from_zip}
use Rattle.std.proofs.lemmas.Iterator.Consumers.{YieldsList-from_enumerate, YieldsList-turn, YieldsList-end}
use Rattle.std.proofs.lemmas.List.{length_push}
use Rattle.model.specs.Post.{post, postings}
use Rattle.model.proofs.Storing.{rest-turn, rest-room, rest_end}
use Rattle.lines.specs.Text.{hit_line}
use Rattle.lines.proofs.Printing.{hits-none, hits_given, given-length}
use lib.ListN.{length}
use Prim.Native.Nat.{◌+◌}
use native.Mathlib.Omega.{arith}
use Rattle.lines.proofs.rows.put_hits.Goals as goal

pub put_hit-j-requires : goal.put_hit-j-requires
put_hit-j-requires c =
    let a = c.args in
    let ds = a.docids.now in
    let ss = a.scores.now in
    let x = c.in-Some in
    let t = YieldsList-turn (YieldsList-from_enumerate (YieldsList-from_take a.n (YieldsList-from_zip (YieldsList-from_slice ds cc) (YieldsList-from_slice ss cc)) cc) cc) c.loop-i.yielded c.loop-i.i-iterator c.loop-i.yielded_by c.next.result c.next.new.self _ c.in-Some.is c.next.ensures.steps in
    let next = hits_given a.n (length c.loop-i.yielded) ds ss (x.i, (x.docid.now, x.score.now)) (omega arith) (omega arith) t in
    rest-room (hit_line (x.i + 1) (post x.docid.now x.score.now)) _ (next) c.loop-i.invariant c.requires.3

pub loop-i-preserved : goal.loop-i-preserved
loop-i-preserved c =
    let a = c.args in
    let ds = a.docids.now in
    let ss = a.scores.now in
    let x = c.in-Some in
    let t = YieldsList-turn (YieldsList-from_enumerate (YieldsList-from_take a.n (YieldsList-from_zip (YieldsList-from_slice ds cc) (YieldsList-from_slice ss cc)) cc) cc) c.loop-i.yielded c.loop-i.i-iterator c.loop-i.yielded_by c.next.result c.next.new.self _ c.in-Some.is c.next.ensures.steps in
    let next = hits_given a.n (length c.loop-i.yielded) ds ss (x.i, (x.docid.now, x.score.now)) (omega arith) (omega arith) t in
    rw length_push (rest-turn _ _ (next) c.loop-i.invariant c.put_hit-j.ensures)

pub returns : goal.returns
returns c =
    let a = c.args in
    let ds = a.docids.now in
    let ss = a.scores.now in
    let t = YieldsList-end (YieldsList-from_enumerate (YieldsList-from_take a.n (YieldsList-from_zip (YieldsList-from_slice ds cc) (YieldsList-from_slice ss cc)) cc) cc) c.loop-i.yielded c.loop-i.i-iterator c.loop-i.yielded_by c.next.result c.next.new.self c.in-None.is c.next.ensures.steps in
    let k = length c.loop-i.yielded in
    rest_end (hits-none (k + 1) a.n k (postings ds ss) (omega (arith, t.1, given-length a.n ds ss (omega arith) (omega arith)))) c.loop-i.invariant
