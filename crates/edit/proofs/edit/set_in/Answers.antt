-- `edit::set_in` meets its contract: the seat's postings, the docid taken out and put in, and the list placed again (`Sittings`). Assumes nothing.
use native.Mathlib.Omega.{arith}
use lib.ListN.{length}
use Rattle.model.specs.Runs.{Bytes}
use Rattle.shelf.specs.Check.{checked}
use Rattle.change.proofs.Pieces.{judged-lists}
use Rattle.edit.proofs.Sittings.{Sits, sits, set_insertable, set-chain, set-fits, runs_placeable, set_gives}
use Rattle.edit.proofs.edit.set_in.Goals as goal

pub held-n-requires : goal.held-n-requires
held-n-requires c =
    let bytes : Bytes c.args.s.now = λ i. omega (arith, c.shared_slice_known-1.given i) in
    let sat : Sits c.args.s.now c.find_seat-seat.result = let l = judged-lists (checked c.args.s.now) c.requires.1 in
    sits c.args.s.now l.0 (bytes) l.1 c.args.term c.find_seat-seat.result (c.find_seat-seat.ensures l.0 l.1) in
    (sat).fills (length c.args.docs.now) (length c.args.scores.now) (omega (arith, c.requires.2.docids)) (omega (arith, c.requires.2.scored))

pub insert-k-requires : goal.insert-k-requires
insert-k-requires c =
    let bytes : Bytes c.args.s.now = λ i. omega (arith, c.shared_slice_known-1.given i) in
    let sat : Sits c.args.s.now c.find_seat-seat.result = let l = judged-lists (checked c.args.s.now) c.requires.1 in
    sits c.args.s.now l.0 (bytes) l.1 c.args.term c.find_seat-seat.result (c.find_seat-seat.ensures l.0 l.1) in
    set_insertable (sat) c.requires.2 c.held-n.ensures c.without-m.ensures

pub place-requires : goal.place-requires
place-requires c =
    let bytes : Bytes c.args.s.now = λ i. omega (arith, c.shared_slice_known-1.given i) in
    let sat : Sits c.args.s.now c.find_seat-seat.result = let l = judged-lists (checked c.args.s.now) c.requires.1 in
    sits c.args.s.now l.0 (bytes) l.1 c.args.term c.find_seat-seat.result (c.find_seat-seat.ensures l.0 l.1) in
    let z = sat in
    runs_placeable c.args.s.now c.find_seat-seat.result _ _ c.insert-k.result _ z (set-chain (sat) c.held-n.ensures c.without-m.ensures c.insert-k.ensures)
    (λ h. set-fits c.args.s.now c.find_seat-seat.result z c.args.docid c.args.term c.args.score c.requires.0)

pub returns : goal.returns
returns c =
    let bytes : Bytes c.args.s.now = λ i. omega (arith, c.shared_slice_known-1.given i) in
    let sat : Sits c.args.s.now c.find_seat-seat.result = let l = judged-lists (checked c.args.s.now) c.requires.1 in
    sits c.args.s.now l.0 (bytes) l.1 c.args.term c.find_seat-seat.result (c.find_seat-seat.ensures l.0 l.1) in
    let a = c.args in
    λ ls e. set_gives a.s.now ls (bytes) e a.term a.docid c.find_seat-seat.result (c.find_seat-seat.ensures ls e) a.score c.insert-k.result (length a.out.now) _ _ _ _ _ (set-chain (sat) c.held-n.ensures c.without-m.ensures c.insert-k.ensures) (c.place.ensures ls e)
