-- `list::read::read_place` meets its contract: each answer is a law of `Given` at the tests that led there. Assumes nothing.
use native.Mathlib.Omega.{arith}
use mathlib.Core.Path.{◌≡◌, sym}
use lib.ListN.{length}
use Rattle.shelf.specs.Walk.{blocks_at}
use Rattle.shelf.specs.Check.{bad_body}
use Rattle.std.specs.Prelude.{None}
use Rattle.model.specs.Refusal.{refusal}
use Rattle.model.specs.declared.refusal.Fault.TheVariants as fault
use Rattle.list.specs.Read.{count_of, read_blocks}
use Rattle.list.specs.Fill.{Fillable}
use Rattle.list.proofs.Given.{reads_refused, read_short, reads_filled}
use Rattle.list.proofs.read.read_place.Goals as goal

pub returns-then-docids-n : goal.returns-then-docids-n
returns-then-docids-n c =
    let a = c.args in
    let bs = blocks_at a.s.now a.list.at a.list.count in
    let right : bad_body bs ≡ None = cc in
    let n : count_of bs ≡ c.count-n.result = sym c.count-n.ensures in
    rw c.at-then-docids-n.ensures (reads_refused (read_blocks bs (length a.docids.now) (length a.scores.now)) (refusal fault.Room 0) a.docids.now a.scores.now
    (read_short bs (length a.docids.now) (length a.scores.now) right (omega arith)))

pub returns-then-scores-n : goal.returns-then-scores-n
returns-then-scores-n c =
    let a = c.args in
    let bs = blocks_at a.s.now a.list.at a.list.count in
    let right : bad_body bs ≡ None = cc in
    let n : count_of bs ≡ c.count-n.result = sym c.count-n.ensures in
    rw c.at-then-scores-n.ensures (reads_refused (read_blocks bs (length a.docids.now) (length a.scores.now)) (refusal fault.Room 0) a.docids.now a.scores.now
    (read_short bs (length a.docids.now) (length a.scores.now) right (omega arith)))

pub returns : goal.returns
returns c =
    let a = c.args in
    let bs = blocks_at a.s.now a.list.at a.list.count in
    let right : bad_body bs ≡ None = cc in
    let n : count_of bs ≡ c.count-n.result = sym c.count-n.ensures in
    let room : Fillable a.s.now a.list (length a.docids.now) (length a.scores.now) = record { ready = c.requires; right = right; roomy = omega arith; wide = omega arith } in
    reads_filled a.s.now a.list a.docids.now a.scores.now c.fill.new.docids c.fill.new.scores c.fill.result room c.fill.ensures
