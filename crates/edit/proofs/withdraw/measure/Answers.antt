-- `edit::measure` meets its contract. The invariant: what was added up and what the lists left come to is all (`Lefts`). Assumes nothing.
use native.Mathlib.Omega.{arith}
use mathlib.Core.Path.{◌≡◌}
use Rattle.std.specs.Prelude.{None, Ok}
use Rattle.shelf.specs.Check.{checked}
use Rattle.shelf.proofs.Steps.{turn}
use Rattle.model.specs.Refusal.{number}
use Rattle.change.proofs.Seats.{onward, at-start, no_fault}
use Rattle.change.proofs.Pieces.{checked-sound, judged-lists}
use Rattle.edit.proofs.Lefts.{left-small, add_start, add-end, add_goes, add-on}
use Rattle.edit.proofs.withdraw.measure.Goals as goal

pub loop-list-init : goal.loop-list-init
loop-list-init c =
    let w = c.new-lists in (
      omega arith,
      omega (arith, at-start w.result w.ensures),
      c.requires.1,
      λ ls e. add_start c.args.s.now c.args.d ls (λ i. omega (arith, c.shared_slice_known-1.given i)) e w.result w.ensures,
    )

pub list_left-l-requires : goal.list_left-l-requires
list_left-l-requires c =
    let l = c.loop-list in
    let j = judged-lists (checked c.args.s.now) c.requires.0 in
    let f = rw c.in-Ok-Some.field-0-is at c.in-Ok-Some.ensures in
    (add_goes c.args.s.now c.args.d j.0 l.lists l.bytes l.held (l.invariant.3 j.0 j.1) c.in-Ok-Some.list c.next.new.self f).ready l.docs l.scores l.invariant.2

pub overflow_add-bytes : goal.overflow_add-bytes
overflow_add-bytes c =
    let s = c.args.s.now in
    let p = c.in-Ok-Some.list in
    let k = onward s c.loop-list.lists p c.next.new.self (rw c.in-Ok-Some.field-0-is at c.in-Ok-Some.ensures) in
    let j = judged-lists (checked s) c.requires.0 in
    omega (
      arith,
      c.loop-list.invariant.0,
      c.loop-list.invariant.1,
      left-small s p c.args.d (omega (arith, k.some)) k.within,
      c.list_left-l.ensures.bytes,
      k.starts,
      k.some,
      k.within,
      (checked-sound s j.0 j.1).short,
    )

pub loop-list-smaller : goal.loop-list-smaller
loop-list-smaller c = (turn c.args.s.now c.loop-list.lists c.in-Ok-Some.list c.next.new.self (rw c.in-Ok-Some.field-0-is at c.in-Ok-Some.ensures)).fewer

pub loop-list-preserved : goal.loop-list-preserved
loop-list-preserved c =
    let l = c.loop-list in
    let s = c.args.s.now in
    let p = c.in-Ok-Some.list in
    let q = rw c.in-Ok-Some.field-0-is at c.in-Ok-Some.ensures in
    let k = onward s l.lists p c.next.new.self q in
    let f = c.list_left-l.ensures in (
      omega (arith, l.invariant.0, left-small s p c.args.d (omega (arith, k.some)) k.within, f.bytes, k.starts, k.ends, k.some),
      omega (arith, k.ends, k.within),
      record { docids = omega (arith, l.invariant.2.docids); scored = omega (arith, l.invariant.2.scored) },
      λ ls e. add-on s c.args.d ls l.lists l.bytes l.held (l.invariant.3 ls e) p c.next.new.self q c.list_left-l.result f,
    )

pub returns-in_default : goal.returns-in_default
returns-in_default c =
    let l = c.loop-list in
    let none : c.next.result ≡ Ok None = cc in
    λ ls e. add-end c.args.s.now c.args.d ls l.lists l.bytes l.held (l.invariant.3 ls e) (rw none at c.next.ensures).0

pub returns-in_default-2 : goal.returns-in_default-2
returns-in_default-2 c =
    let l = c.loop-list in
    let r = c.in_default.field-0 in
    λ ls e. no_fault c.args.s.now l.lists (l.invariant.3 ls e).rest (l.invariant.3 ls e).going.left (number r.fault) r.offset (rw c.in_default.is at c.next.ensures).0
