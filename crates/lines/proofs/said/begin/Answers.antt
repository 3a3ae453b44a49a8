-- `lines::said::begin` meets its contract, test by test. Assumes nothing.
use native.Mathlib.Omega.{arith}
use Rattle.model.proofs.Storing.{stored-append, stored_as}
use Rattle.lines.proofs.Beginnings.{small-output, small-error, room_enough, begun_silent, begun_answer, begun_unread, unread-parts}
use Rattle.lines.proofs.said.begin.Goals.{then-room-lt-MAX_OUTPUT-via-then-room-lt-MAX_OUTPUT, then-room-lt-MAX_OUTPUT-via-else-room-lt-MAX_OUTPUT+then-err-name}
use Rattle.lines.proofs.said.begin.Goals as goal

pub returns-then-room-lt-MAX_OUTPUT : goal.returns-then-room-lt-MAX_OUTPUT
returns-then-room-lt-MAX_OUTPUT c =
    let a = c.args in
    begun_silent a.name.now a.room a.err.now a.err.now a.input
    (elim c.then-room-lt-MAX_OUTPUT.branch [
      | then-room-lt-MAX_OUTPUT-via-then-room-lt-MAX_OUTPUT w ↦ small-output _ _ _ (omega (arith, w.if-room-lt-MAX_OUTPUT.true))
      | then-room-lt-MAX_OUTPUT-via-else-room-lt-MAX_OUTPUT+then-err-name w ↦ small-error _ _ _ (omega (arith, w.if-err-name.true))
    ])

pub returns-in-Some : goal.returns-in-Some
returns-in-Some c =
    let a = c.args in
    rw c.in-Some.is (begun_answer a.name.now a.room a.err.now a.err.now c.in-Some.bytes (room_enough _ _ _ (omega arith) (omega arith)))

pub returns : goal.returns
returns c =
    let a = c.args in
    rw c.in_default.is
    (begun_unread a.name.now a.room a.err.now c.put_word.new.out c.put_word.result (room_enough _ _ _ (omega arith) (omega arith)) (omega arith)
    (stored_as (unread-parts a.name.now) (stored-append c.put_word-p.ensures c.put_word.ensures)))
