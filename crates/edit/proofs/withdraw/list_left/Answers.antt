-- `edit::list_left` meets its contract: the bytes as they stand, or the postings read, the docid taken out, and packed anew (`Lefts`). Assumes nothing.
use mathlib.Core.Path.{sym, ap, ◌∙◌}
use mathlib.Core.List.{List}
use Prim.Native.Nat.{ℕ}
use lib.ListN.{length}
use Rattle.edit.specs.Left.{layout_at}
use Rattle.edit.proofs.Lefts.{left-held, left-may, left-new, left-some}
use Rattle.edit.proofs.withdraw.list_left.Goals as goal

pub without-m-requires : goal.without-m-requires
without-m-requires c =
    let r = left-held c.requires c.fill-n.ensures in
    (r.roomy, r.wide)

pub new_len-requires : goal.new_len-requires
new_len-requires c =
    left-may c.requires c.fill-n.ensures c.without-m.ensures

pub returns : goal.returns
returns c =
    let t = c.args.list.term in
    let lay = layout_at c.args.s.now c.args.list in
    left-some c.args.s.now c.args.list c.args.d _ (sym c.holds.ensures ∙ c.if-not-holds.false) (c.new_len.ensures lay t ∙ ap (λ (x : List ℕ). length x) (left-new c.requires c.fill-n.ensures c.without-m.ensures lay t))
