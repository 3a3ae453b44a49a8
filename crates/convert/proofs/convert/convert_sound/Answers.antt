-- `convert::convert_sound` meets its contract: no list, 12; no room, 9; else the shelf is copied and the list's bodies are written over (`Seatings`).
-- Assumes nothing.
use native.Mathlib.Omega.{arith}
use mathlib.Core.Path.{◌≡◌, sym, ◌∙◌}
use lib.ListN.{length}
use Rattle.model.proofs.Storing.{stored-length}
use Rattle.shelf.specs.Check.{checked}
use Rattle.list.proofs.Faults.{gives-refused}
use Rattle.change.specs.declared.seat.Seat.TheVariants.{Taken, Free}
use Rattle.change.proofs.Pieces.{judged-lists}
use Rattle.convert.proofs.Seatings.{refuses_none, refuses_tight, seat_turnable, seat_gives}
use Rattle.convert.proofs.convert.convert_sound.Goals as goal

pub returns-then-out-s : goal.returns-then-out-s
returns-then-out-s c =
    let f = c.find_seat in
    let q : f.result ≡ Taken c.in-Taken.list = cc in
    λ ls e. rw c.at-then-out-s.ensures (gives-refused _ c.args.out.now (refuses_tight c.args.s.now ls (λ i. omega (arith, c.shared_slice_known-1.given i)) e c.args.term c.in-Taken.list (sym q ∙ f.ensures ls e) (length c.args.out.now) c.if-out-s.true))

pub turn_bodies-requires : goal.turn_bodies-requires
turn_bodies-requires c =
    let f = c.find_seat in
    let q : f.result ≡ Taken c.in-Taken.list = cc in
    let l = judged-lists (checked c.args.s.now) c.requires in
    seat_turnable c.args.s.now l.0 (λ i. omega (arith, c.shared_slice_known-1.given i)) l.1 c.args.term c.in-Taken.list (sym q ∙ f.ensures l.0 l.1) _ (omega (arith, c.if-out-s.false, stored-length c.copy-n.ensures))

pub returns-in_default : goal.returns-in_default
returns-in_default c =
    let f = c.find_seat in
    let q : f.result ≡ Free c.in_default.field-0 = c.in_default.is in
    λ ls e. rw c.at.ensures (gives-refused _ c.args.out.now (refuses_none c.args.s.now ls (λ i. omega (arith, c.shared_slice_known-1.given i)) e c.args.term c.in_default.field-0 (length c.args.out.now) (sym q ∙ f.ensures ls e)))

pub returns : goal.returns
returns c =
    let f = c.find_seat in
    let q : f.result ≡ Taken c.in-Taken.list = cc in
    λ ls e. seat_gives c.args.s.now ls (λ i. omega (arith, c.shared_slice_known-1.given i)) e c.args.term c.in-Taken.list (sym q ∙ f.ensures ls e) c.args.out.now _ _ _ (omega (arith, c.if-out-s.false)) c.copy-n.ensures c.turn_bodies.ensures
