-- `edit::put_all` meets its contract. The invariant: what the lists left come to is left to store (`Lefts`). Assumes nothing.
use native.Mathlib.Omega.{arith}
use mathlib.Core.Path.{◌≡◌, refl, ◌∙◌}
use Rattle.std.specs.Prelude.{None, Ok}
use Rattle.model.proofs.Storing.{stored-length}
use Rattle.shelf.specs.Check.{checked}
use Rattle.shelf.proofs.Steps.{turn}
use Rattle.model.specs.Refusal.{number}
use Rattle.change.proofs.Seats.{no_fault}
use Rattle.change.proofs.Pieces.{judged-lists}
use Rattle.edit.proofs.Lefts.{put_start, put_end, put_goes, put_room, put_on}
use Rattle.edit.proofs.withdraw.put_all.Goals as goal

pub loop-list-init : goal.loop-list-init
loop-list-init c =
    let w = c.new-lists in
    (c.requires.1, (λ ls e. put_start c.args.s.now c.args.d ls c.args.out.now (λ i. omega (arith, c.shared_slice_known-1.given i)) e w.result w.ensures), refl)

pub put_left-j-requires : goal.put_left-j-requires
put_left-j-requires c =
    let a = c.args in
    let l = c.loop-list in
    let j = judged-lists (checked a.s.now) c.requires.0 in
    let i = l.invariant.1 j.0 j.1 in
    let q = rw c.in-Ok-Some.field-0-is at c.in-Ok-Some.ensures in (
      (put_goes a.s.now a.d j.0 a.out.now l.out l.lists l.j i c.in-Ok-Some.list c.next.new.self q).ready l.docs l.scores l.invariant.0,
      put_room a.s.now a.d j.0 a.out.now l.out l.lists l.j i c.in-Ok-Some.list c.next.new.self q (c.requires.2 j.0 j.1),
    )

pub loop-list-smaller : goal.loop-list-smaller
loop-list-smaller c = (turn c.args.s.now c.loop-list.lists c.in-Ok-Some.list c.next.new.self (rw c.in-Ok-Some.field-0-is at c.in-Ok-Some.ensures)).fewer

pub loop-list-preserved : goal.loop-list-preserved
loop-list-preserved c =
    let a = c.args in
    let l = c.loop-list in
    let q = rw c.in-Ok-Some.field-0-is at c.in-Ok-Some.ensures in (
      record { docids = omega (arith, l.invariant.0.docids); scored = omega (arith, l.invariant.0.scored) },
      (λ ls e. put_on a.s.now a.d ls a.out.now l.out l.lists l.j (l.invariant.1 ls e) c.in-Ok-Some.list c.next.new.self q _ _ c.put_left-j.ensures),
      stored-length c.put_left-j.ensures ∙ l.invariant.2,
    )

pub returns-in_default : goal.returns-in_default
returns-in_default c =
    let a = c.args in
    let l = c.loop-list in
    let none : c.next.result ≡ Ok None = cc in
    λ ls e. put_end a.s.now a.d ls a.out.now l.out l.lists l.j (l.invariant.1 ls e) (rw none at c.next.ensures).0

pub returns-in_default-2 : goal.returns-in_default-2
returns-in_default-2 c =
    let l = c.loop-list in
    let r = c.in_default.field-0 in
    λ ls e. no_fault c.args.s.now l.lists (l.invariant.1 ls e).rest (l.invariant.1 ls e).going.left (number r.fault) r.offset (rw c.in_default.is at c.next.ensures).0
