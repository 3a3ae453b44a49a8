-- `block::cursor::scored` meets its contract: what `score` found, in the run of the layout. Assumes nothing.
use Rattle.wire.specs.Gap.{score_at}
use Rattle.std.specs.Prelude.{Ok, Err}
use Rattle.block.proofs.Steps.{scored-strip, scored-turn, strip-not, turn-not}
use mathlib.Core.Path.{◌≡◌, sym}
use Rattle.block.proofs.cursor.scored.Goals as goal

pub returns-in-Ok : goal.returns-in-Ok
returns-in-Ok c =
    let a = c.args in
    let f : score_at a.points.now a.c.points ≡ Ok (c.in-Ok.w, c.in-Ok.past) = cc in
    rw (scored-strip a.gaps.now a.points.now a.c c.if-c.true c.in-Ok.w c.in-Ok.past f) c.past_score.ensures

pub returns-in-Err : goal.returns-in-Err
returns-in-Err c =
    let a = c.args in
    let f : score_at a.points.now a.c.points ≡ Err c.in-Err.fault = cc in
    sym (strip-not a.gaps.now a.points.now a.c c.if-c.true c.in-Err.fault f)

pub returns-in-Ok-score : goal.returns-in-Ok-score
returns-in-Ok-score c =
    let a = c.args in
    let f : score_at a.gaps.now a.c.at ≡ Ok (c.in-Ok-score.w, c.in-Ok-score.past) = cc in
    rw (scored-turn a.gaps.now a.points.now a.c c.if-c.false c.in-Ok-score.w c.in-Ok-score.past f) c.past_score-in-Ok-score.ensures

pub returns-in-Err-score : goal.returns-in-Err-score
returns-in-Err-score c =
    let a = c.args in
    let f : score_at a.gaps.now a.c.at ≡ Err c.in-Err-score.fault = cc in
    sym (turn-not a.gaps.now a.points.now a.c c.if-c.false c.in-Err-score.fault f)
