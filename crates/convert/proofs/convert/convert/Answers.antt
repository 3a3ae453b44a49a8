-- `convert::convert` meets its contract: what the checker says, then the conversion of a sound shelf (`Seatings`). Assumes nothing.
use mathlib.Core.Path.{sym}
use lib.ListN.{length}
use Rattle.shelf.specs.Check.{checked}
use Rattle.std.proofs.lemmas.Result.{err_from_is_err_and}
use Rattle.model.specs.Refusal.{number}
use Rattle.list.proofs.Faults.{gives-refused}
use Rattle.change.proofs.Pieces.{judged-lists}
use Rattle.convert.proofs.Seatings.{converted-sound, converted-fault}
use Rattle.convert.proofs.convert.convert.Goals as goal

pub returns : goal.returns
returns c =
    let a = c.args in
    let l = judged-lists (checked a.s.now) (sym c.in_ok-check.ensures) in
    rw (converted-sound a.term a.s.now (length a.out.now) l.0 l.1) (c.convert_sound.ensures l.0 l.1)

pub returns-in_err-check : goal.returns-in_err-check
returns-in_err-check c =
    let a = c.args in
    let p = err_from_is_err_and c.from_residual.result c.from_residual.ensures.1 in
    let r = c.in_err-check.field-0.0 in
    rw (p.1, p.2) (gives-refused r a.out.now
    (converted-fault a.term a.s.now (length a.out.now) (number r.fault) r.offset (sym c.in_err-check.ensures)))
