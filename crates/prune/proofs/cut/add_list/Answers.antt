use Prim.Native.Nat.{◌+◌, ◌*◌, ◌≤◌}
use mathlib.Core.Path.{◌≡◌}
use native.Mathlib.Omega.{arith}
use lib.ListN.{length, take}
use lib.Seq.{length-take-le}
use Rattle.prune.proofs.Gathers.{list-few, list_asc, merge-few, merge-whole}
use Rattle.prune.proofs.cut.add_list.Goals as goal

pub merge_cuts-r-requires : goal.merge_cuts-r-requires
merge_cuts-r-requires c =
    let a = c.args in
    let q = c.requires in
    let p = c.list_cuts-m in
    let few : p.result ≤ 2 * length a.los.now = list-few a.lim a.los.now a.his.now _ p.new.out p.result p.ensures in
    let l1 : length (take a.n a.run.now) ≡ a.n = length-take-le a.n a.run.now (omega (arith, q.2)) in
    let l2 : length (take p.result p.new.out) ≡ p.result = length-take-le p.result p.new.out (omega (arith, p.auto.out, q.4)) in
    (omega (arith, q.2, q.5), list_asc a.lim a.los.now a.his.now _ p.new.out p.result p.ensures)

pub copy_run-requires : goal.copy_run-requires
copy_run-requires c =
    let a = c.args in
    let q = c.requires in
    let p = c.list_cuts-m in
    let few : p.result ≤ 2 * length a.los.now = list-few a.lim a.los.now a.his.now _ p.new.out p.result p.ensures in
    let m = c.merge_cuts-r in
    let most : m.result ≤ a.n + 2 * length a.los.now = merge-few a.lim a.los.now a.his.now _ p.new.out p.result p.ensures a.n a.run.now _ m.new.out m.result q.3 m.ensures (omega (arith, q.2)) in
    (omega (arith, m.auto.out, q.2, q.5), omega (arith, q.2))

pub returns : goal.returns
returns c =
    let a = c.args in
    let q = c.requires in
    let p = c.list_cuts-m in
    let few : p.result ≤ 2 * length a.los.now = list-few a.lim a.los.now a.his.now _ p.new.out p.result p.ensures in
    let m = c.merge_cuts-r in
    let t = c.copy_run in
    merge-whole a.lim a.los.now a.his.now _ p.new.out p.result p.ensures a.n a.run.now _ m.new.out m.result q.3 m.ensures t.new.to t.result t.ensures
