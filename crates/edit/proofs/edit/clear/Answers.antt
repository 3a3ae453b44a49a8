-- `edit::clear` meets its contract: a law for each refusal, and what the edit of a sound shelf ensures. Assumes nothing.
use mathlib.Core.Path.{◌≡◌, sym, ◌∙◌}
use mathlib.Core.Bool.{true}
use lib.ListN.{length}
use Rattle.shelf.specs.Check.{checked}
use Rattle.std.proofs.lemmas.Result.{err_from_is_err_and}
use Rattle.model.specs.Refusal.{number}
use Rattle.list.proofs.Faults.{gives-refused}
use Rattle.change.specs.Edits.{Clear}
use Rattle.change.specs.Bytes.{in_range}
use Rattle.change.proofs.Pieces.{judged-lists}
use Rattle.edit.proofs.Entries.{edited_range, edited-sound, edited-fault}
use Rattle.edit.proofs.edit.clear.Goals as goal

pub returns-then-not-docid_in : goal.returns-then-not-docid_in
returns-then-not-docid_in c =
    let a = c.args in
    let f = sym c.docid_in.ensures ∙ c.if-not-docid_in.true in
    rw c.at.ensures (gives-refused _ a.out.now (edited_range (Clear a.term a.docid) a.s.now (length a.out.now) f))

pub returns : goal.returns
returns c =
    let ranged : in_range (Clear c.args.term c.args.docid) ≡ true = sym c.docid_in.ensures ∙ c.if-not-docid_in.false in
    let a = c.args in
    let l = judged-lists (checked a.s.now) (sym c.in_ok-check.ensures) in
    rw (edited-sound (Clear a.term a.docid) a.s.now (length a.out.now) (ranged) l.0 l.1) (c.clear_sound.ensures l.0 l.1)

pub returns-in_err-check : goal.returns-in_err-check
returns-in_err-check c =
    let ranged : in_range (Clear c.args.term c.args.docid) ≡ true = sym c.docid_in.ensures ∙ c.if-not-docid_in.false in
    let a = c.args in
    let p = err_from_is_err_and c.from_residual.result c.from_residual.ensures.1 in
    let r = c.in_err-check.field-0.0 in
    rw (p.1, p.2) (gives-refused r a.out.now
    (edited-fault (Clear a.term a.docid) a.s.now (length a.out.now) (ranged) (number r.fault) r.offset (sym c.in_err-check.ensures)))
