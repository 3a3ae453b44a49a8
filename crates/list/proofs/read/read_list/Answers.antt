-- `list::read::read_list` meets its contract: the refusal of finding the list, or what `read_place` answers. Assumes nothing.
use mathlib.Core.Path.{sym}
use lib.ListN.{length}
use Rattle.std.proofs.lemmas.Result.{err_from_is_err_and}
use Rattle.model.specs.Refusal.{number}
use Rattle.list.specs.Read.{read_list}
use Rattle.list.proofs.Given.{reads_refused, read_found, read-refused}
use Rattle.list.proofs.read.read_list.Goals as goal

pub read_place-requires : goal.read_place-requires
read_place-requires c =
    let a = c.args in
    (read_found a.term a.s.now c.in_ok-list.list (sym c.in_ok-list.ensures)).0

pub returns : goal.returns
returns c =
    let a = c.args in
    rw ((read_found a.term a.s.now c.in_ok-list.list (sym c.in_ok-list.ensures)).1 (length a.docids.now) (length a.scores.now)) c.read_place.ensures

pub returns-in_err-list : goal.returns-in_err-list
returns-in_err-list c =
    let a = c.args in
    let p = err_from_is_err_and c.from_residual.result c.from_residual.ensures.1 in
    let r = c.in_err-list.field-0.0 in
    rw (p.1, p.2) (reads_refused (read_list a.term a.s.now (length a.docids.now) (length a.scores.now)) r a.docids.now a.scores.now
    (read-refused a.term a.s.now (number r.fault) r.offset (length a.docids.now) (length a.scores.now) (sym c.in_err-list.ensures)))
