-- `shelf::walk::head_at` meets its contract: each return is a law of `Walks` at the tests that led there. Assumes nothing.
use Rattle.wire.specs.Field.{field_at}
use Rattle.std.specs.Prelude.{Some, None}
use Rattle.wire.proofs.Fields.{field_room}
use Rattle.shelf.proofs.Walks.{head-none, head-other, head_low, head-zero, head_many, head-there}
use Prim.Native.Nat.{◌+◌, ◌≤◌}
use native.Mathlib.Omega.{arith}
use mathlib.Core.Path.{◌≡◌, sym, ◌∙◌}
use lib.ListN.{length}
use Rattle.shelf.proofs.walk.head_at.Goals as goal

pub returns-then-n-ne5 : goal.returns-then-n-ne5
returns-then-n-ne5 c =
    let found : field_at 1 c.args.s.now c.args.at ≡ Some c.in_ok-n.n = sym c.field.ensures ∙ c.in_ok-n.was in
    let a = c.args in sym (head-other a.floor a.s.now a.at c.in_ok-n.n (found) c.if-n-ne5.true)

pub overflow_add-at : goal.overflow_add-at
overflow_add-at c =
    let found : field_at 1 c.args.s.now c.args.at ≡ Some c.in_ok-n.n = sym c.field.ensures ∙ c.in_ok-n.was in
    let room : c.args.at + (3 + c.in_ok-n.n) ≤ length c.args.s.now = field_room 1 c.args.s.now c.args.at c.in_ok-n.n (found) in
    omega (arith, room, c.if-n-ne5.false)

pub be4-term-requires : goal.be4-term-requires
be4-term-requires c =
    let found : field_at 1 c.args.s.now c.args.at ≡ Some c.in_ok-n.n = sym c.field.ensures ∙ c.in_ok-n.was in
    let room : c.args.at + (3 + c.in_ok-n.n) ≤ length c.args.s.now = field_room 1 c.args.s.now c.args.at c.in_ok-n.n (found) in
    omega (arith, room, c.if-n-ne5.false)

pub overflow_add-at-2 : goal.overflow_add-at-2
overflow_add-at-2 c =
    let found : field_at 1 c.args.s.now c.args.at ≡ Some c.in_ok-n.n = sym c.field.ensures ∙ c.in_ok-n.was in
    let room : c.args.at + (3 + c.in_ok-n.n) ≤ length c.args.s.now = field_room 1 c.args.s.now c.args.at c.in_ok-n.n (found) in
    omega (arith, room, c.if-n-ne5.false)

pub be1-count-requires : goal.be1-count-requires
be1-count-requires c =
    let found : field_at 1 c.args.s.now c.args.at ≡ Some c.in_ok-n.n = sym c.field.ensures ∙ c.in_ok-n.was in
    let room : c.args.at + (3 + c.in_ok-n.n) ≤ length c.args.s.now = field_room 1 c.args.s.now c.args.at c.in_ok-n.n (found) in
    omega (arith, room, c.if-n-ne5.false)

pub returns-then-term-floor : goal.returns-then-term-floor
returns-then-term-floor c =
    let found : field_at 1 c.args.s.now c.args.at ≡ Some c.in_ok-n.n = sym c.field.ensures ∙ c.in_ok-n.was in
    let a = c.args in sym (head_low a.floor a.s.now a.at c.in_ok-n.n c.be4-term.result c.be1-count.result (found) c.if-n-ne5.false c.be4-term.ensures c.be1-count.ensures c.if-term-floor.true)

pub returns-then-count-eq0 : goal.returns-then-count-eq0
returns-then-count-eq0 c =
    let found : field_at 1 c.args.s.now c.args.at ≡ Some c.in_ok-n.n = sym c.field.ensures ∙ c.in_ok-n.was in
    let a = c.args in sym (head-zero a.floor a.s.now a.at c.in_ok-n.n c.be4-term.result c.be1-count.result (found) c.if-n-ne5.false c.be4-term.ensures c.be1-count.ensures c.if-term-floor.false c.if-count-eq0.true)

pub returns-then-count-gt-PER_LIST : goal.returns-then-count-gt-PER_LIST
returns-then-count-gt-PER_LIST c =
    let found : field_at 1 c.args.s.now c.args.at ≡ Some c.in_ok-n.n = sym c.field.ensures ∙ c.in_ok-n.was in
    let a = c.args in sym (head_many a.floor a.s.now a.at c.in_ok-n.n c.be4-term.result c.be1-count.result (found) c.if-n-ne5.false c.be4-term.ensures c.be1-count.ensures c.if-term-floor.false c.if-count-eq0.false c.if-count-gt-PER_LIST.true)

pub returns : goal.returns
returns c =
    let found : field_at 1 c.args.s.now c.args.at ≡ Some c.in_ok-n.n = sym c.field.ensures ∙ c.in_ok-n.was in
    let a = c.args in sym (head-there a.floor a.s.now a.at c.in_ok-n.n c.be4-term.result c.be1-count.result (found) c.if-n-ne5.false c.be4-term.ensures c.be1-count.ensures c.if-term-floor.false c.if-count-eq0.false c.if-count-gt-PER_LIST.false)

pub returns-in_err-n : goal.returns-in_err-n
returns-in_err-n c =
    let a = c.args in
    let f : field_at 1 a.s.now a.at ≡ None = sym c.field.ensures ∙ c.in_err-n.was in
    c.from_residual.ensures ∙ sym (head-none a.floor a.s.now a.at f)
