use mathlib.Core.List.{[]}
use mathlib.Core.Path.{◌∙◌}
use native.Mathlib.Omega.{arith}
use lib.ListN.{length}
use Rattle.std.proofs.lemmas.List.{length_push}
use Rattle.std.proofs.lemmas.Slice.Zip.{zip_turn}
use Rattle.prune.proofs.Gathers.{gathering_more, gathering_most, first_asks, second_asks, second_most}
use Rattle.prune.proofs.cut.list_cuts.Goals as goal

pub push_cut-m-requires : goal.push_cut-m-requires
push_cut-m-requires c =
    let a = c.args in
    let q = c.requires in
    let s = c.loop-least in
    let t = zip_turn a.los.now a.his.now s.yielded _ s.least-iterator c.next.new.self _ (cc) (cc) s.yielded_by (c.in-Some.least, c.in-Some.greatest) c.in-Some.is c.next.ensures.steps in
    let least = t.2 0 in
    let greatest = t.3 0 in
    let w = first_asks a.lim [] a.los.now a.his.now a.out.now s.out s.n (length s.yielded) s.invariant tt t.0 (omega (arith, q.2)) in
    rw least (w.0, w.1, gathering_most a.lim [] a.los.now a.his.now a.out.now s.out s.n (length s.yielded) s.invariant q.0 t.0 tt)

pub push_cut-n-requires : goal.push_cut-n-requires
push_cut-n-requires c =
    let a = c.args in
    let q = c.requires in
    let s = c.loop-least in
    let t = zip_turn a.los.now a.his.now s.yielded _ s.least-iterator c.next.new.self _ (cc) (cc) s.yielded_by (c.in-Some.least, c.in-Some.greatest) c.in-Some.is c.next.ensures.steps in
    let least = t.2 0 in
    let greatest = t.3 0 in
    let p = c.push_cut-m in
    let first = rw least at p.ensures in
    let w = second_asks a.lim [] a.los.now a.his.now a.out.now s.out s.n (length s.yielded) s.invariant p.new.out p.result tt t.0 (omega (arith, q.2)) p.auto.out first in
    rw greatest (w.0, w.1, second_most a.lim [] a.los.now a.his.now a.out.now s.out s.n (length s.yielded) s.invariant p.new.out p.result q.0 tt t.0 first)

pub loop-least-preserved : goal.loop-least-preserved
loop-least-preserved c =
    let a = c.args in
    let q = c.requires in
    let s = c.loop-least in
    let t = zip_turn a.los.now a.his.now s.yielded _ s.least-iterator c.next.new.self _ (cc) (cc) s.yielded_by (c.in-Some.least, c.in-Some.greatest) c.in-Some.is c.next.ensures.steps in
    let least = t.2 0 in
    let greatest = t.3 0 in
    let p = c.push_cut-m in
    let first = rw least at p.ensures in
    let r = c.push_cut-n in
    rw (length_push s.yielded (c.in-Some.least, c.in-Some.greatest)) (gathering_more a.lim [] a.los.now a.his.now a.out.now s.out s.n (length s.yielded) s.invariant p.new.out r.new.out p.result r.result t.0 q.0.even (r.auto.out ∙ p.auto.out) first (rw greatest at r.ensures))
