-- `edit::clear_in` meets its contract: the seat's postings, the docid taken out, and the list placed again (`Sittings`). Assumes nothing.
use native.Mathlib.Omega.{arith}
use lib.ListN.{length}
use Rattle.model.specs.Runs.{Bytes}
use Rattle.shelf.specs.Check.{checked}
use Rattle.list.proofs.Faults.{gives-refused}
use Rattle.change.proofs.Pieces.{judged-lists}
use Rattle.change.proofs.News.{held-runs}
use Rattle.edit.proofs.Sittings.{Sits, sits, clear-chain, cleared-fit, runs_placeable, clear_refuses, clear-gives}
use Rattle.edit.proofs.edit.clear_in.Goals as goal

pub held-n-requires : goal.held-n-requires
held-n-requires c =
    let bytes : Bytes c.args.s.now = λ i. omega (arith, c.shared_slice_known-1.given i) in
    let sat : Sits c.args.s.now c.find_seat-seat.result = let l = judged-lists (checked c.args.s.now) c.requires.0 in
    sits c.args.s.now l.0 (bytes) l.1 c.args.term c.find_seat-seat.result (c.find_seat-seat.ensures l.0 l.1) in
    (sat).fills (length c.args.docs.now) (length c.args.scores.now) (omega (arith, c.requires.1.docids)) (omega (arith, c.requires.1.scored))

pub returns-then-m-n : goal.returns-then-m-n
returns-then-m-n c =
    let bytes : Bytes c.args.s.now = λ i. omega (arith, c.shared_slice_known-1.given i) in
    let a = c.args in
    λ ls e. rw c.at.ensures (gives-refused _ a.out.now (clear_refuses a.s.now ls (bytes) e a.term a.docid c.find_seat-seat.result (c.find_seat-seat.ensures ls e) c.held-n.result c.without-m.result _ _ _ _ (held-runs c.held-n.ensures) (clear-chain c.held-n.ensures c.without-m.ensures) (length a.out.now) c.if-m-n.true))

pub place-requires : goal.place-requires
place-requires c =
    let bytes : Bytes c.args.s.now = λ i. omega (arith, c.shared_slice_known-1.given i) in
    let sat : Sits c.args.s.now c.find_seat-seat.result = let l = judged-lists (checked c.args.s.now) c.requires.0 in
    sits c.args.s.now l.0 (bytes) l.1 c.args.term c.find_seat-seat.result (c.find_seat-seat.ensures l.0 l.1) in
    let z = sat in
    runs_placeable c.args.s.now c.find_seat-seat.result _ _ c.without-m.result _ z (clear-chain c.held-n.ensures c.without-m.ensures)
    (cleared-fit c.args.s.now c.find_seat-seat.result z c.args.docid)

pub returns : goal.returns
returns c =
    let bytes : Bytes c.args.s.now = λ i. omega (arith, c.shared_slice_known-1.given i) in
    let a = c.args in
    λ ls e. clear-gives a.s.now ls (bytes) e a.term a.docid c.find_seat-seat.result (c.find_seat-seat.ensures ls e) c.held-n.result c.without-m.result _ _ _ _ (held-runs c.held-n.ensures) (clear-chain c.held-n.ensures c.without-m.ensures)
    (length a.out.now) _ _ _ c.if-m-n.false (c.place.ensures ls e)
