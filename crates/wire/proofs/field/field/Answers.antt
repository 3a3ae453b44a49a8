-- `wire::field` meets its contract: each return is a law of `Fields` at the tests that led there. Assumes nothing.
use Rattle.wire.proofs.Fields.{field-short, field-other, field_cut, field-there}
use native.Mathlib.Omega.{arith}
use mathlib.Core.Path.{sym}
use Rattle.wire.proofs.field.field.Goals as goal

pub returns-then-n-at : goal.returns-then-n-at
returns-then-n-at c = let a = c.args in sym (field-short a.tag a.s.now a.at (omega arith))

pub returns-then-left-lt3 : goal.returns-then-left-lt3
returns-then-left-lt3 c = let a = c.args in sym (field-short a.tag a.s.now a.at (omega arith))

pub returns-then-s-at : goal.returns-then-s-at
returns-then-s-at c = let a = c.args in sym (field-other a.tag a.s.now a.at (omega arith) c.if-s-at.true)

pub returns-then-left-len : goal.returns-then-left-len
returns-then-left-len c = let a = c.args in sym (field_cut a.tag a.s.now a.at (omega arith) c.if-s-at.false (omega (arith, c.be2-len.ensures)))

pub returns : goal.returns
returns c = let a = c.args in
    rw c.be2-len.ensures
    (sym (field-there a.tag a.s.now a.at (omega arith) c.if-s-at.false (omega (arith, c.be2-len.ensures))))
