-- `edit::put_left` meets its contract: the bytes copied, or the postings read, the docid taken out, and packed anew (`Lefts`). Assumes nothing.
use native.Mathlib.Omega.{arith}
use mathlib.Core.Path.{sym, ap, ◌∙◌}
use mathlib.Core.List.{List}
use Prim.Native.Nat.{ℕ}
use lib.ListN.{length}
use Rattle.model.proofs.Storing.{stored_as}
use Rattle.edit.proofs.Sittings.{count-some}
use Rattle.edit.proofs.Lefts.{left-held, left-may, left-anew}
use Rattle.edit.proofs.withdraw.put_left.Goals as goal

pub without-m-requires : goal.without-m-requires
without-m-requires c =
    let r = left-held c.requires.0 c.fill-n.ensures in
    (r.roomy, r.wide)

pub strip_of-strip-requires : goal.strip_of-strip-requires
strip_of-strip-requires c =
    let z = c.requires.0 in
    (count-some c.args.s.now c.args.list.at c.args.list.count z.may.some, omega (arith, z.fills.ready.room))

pub put_new-requires : goal.put_new-requires
put_new-requires c =
    let h = sym c.holds.ensures ∙ c.if-not-holds.false in
    let e = left-anew c.requires.0 c.fill-n.ensures c.without-m.ensures c.strip_of-strip.result c.strip_of-strip.ensures h in
    (left-may c.requires.0 c.fill-n.ensures c.without-m.ensures, omega (arith, c.requires.1, ap (λ (x : List ℕ). length x) e))

pub returns : goal.returns
returns c =
    let h = sym c.holds.ensures ∙ c.if-not-holds.false in
    stored_as (left-anew c.requires.0 c.fill-n.ensures c.without-m.ensures c.strip_of-strip.result c.strip_of-strip.ensures h) c.put_new.ensures
