-- `place` meets its contract. The invariant: the hit is behind all rows before `low`, and ahead of the one at `high`, if there is one. Assumes nothing.
use Prim.Native.Nat.{ℕ, ◌<◌, ◌+◌, ◌-◌, ◌/◌}
use mathlib.Core.Path.{◌≡◌, sym, ◌∙◌}
use native.Mathlib.Omega.{arith}
use native.Mathlib.Numerals.{add-one}
use lib.ListN.{length, take, get_or}
use lib.Seq.{length-take-le, get_or-take}
use Rattle.model.specs.Post.{post, postings}
use Rattle.rank.proofs.Places.{insert-at, behind-before}
use Rattle.rank.proofs.Rows.{rows-length, rows_get_d}
use Rattle.rank.proofs.keep.place.Goals as goal

pub loop-low-preserved-then-is_ahead : goal.loop-low-preserved-then-is_ahead
loop-low-preserved-then-is_ahead c =
    let here : (i : ℕ) → i < c.args.n → get_or (take c.args.n (postings c.args.docids.now c.args.scores.now)) i (post 0 0) ≡ post (get_or c.args.docids.now i 0) (get_or c.args.scores.now i 0) = λ i l. get_or-take c.args.n (postings c.args.docids.now c.args.scores.now) i (post 0 0) l ∙ rows_get_d c.args.docids.now c.args.scores.now i (omega arith) (omega arith) in
    let mid = c.loop-low.low + (c.loop-low.high - c.loop-low.low) / 2 in
    (omega arith, omega arith, c.loop-low.invariant.2, λ l. rw (here mid l) (sym c.is_ahead.ensures ∙ c.if-is_ahead.true))

pub loop-low-preserved : goal.loop-low-preserved
loop-low-preserved c =
    let long : length (take c.args.n (postings c.args.docids.now c.args.scores.now)) ≡ c.args.n = length-take-le c.args.n (postings c.args.docids.now c.args.scores.now) (omega (arith, rows-length c.args.docids.now c.args.scores.now (omega arith))) in
    let here : (i : ℕ) → i < c.args.n → get_or (take c.args.n (postings c.args.docids.now c.args.scores.now)) i (post 0 0) ≡ post (get_or c.args.docids.now i 0) (get_or c.args.scores.now i 0) = λ i l. get_or-take c.args.n (postings c.args.docids.now c.args.scores.now) i (post 0 0) l ∙ rows_get_d c.args.docids.now c.args.scores.now i (omega arith) (omega arith) in
    let x = take c.args.n (postings c.args.docids.now c.args.scores.now) in
    let h = post c.args.d c.args.s in
    let mid = c.loop-low.low + (c.loop-low.high - c.loop-low.low) / 2 in
    let l : mid < c.args.n = omega arith in
    (omega arith, omega arith, rw (add-one mid) (behind-before h (post 0 0) mid x c.requires.3 (rw (long) l) (rw (here mid l) (sym c.is_ahead.ensures ∙ c.if-is_ahead.false))), c.loop-low.invariant.3)

pub returns : goal.returns
returns c =
    let long : length (take c.args.n (postings c.args.docids.now c.args.scores.now)) ≡ c.args.n = length-take-le c.args.n (postings c.args.docids.now c.args.scores.now) (omega (arith, rows-length c.args.docids.now c.args.scores.now (omega arith))) in
    let x = take c.args.n (postings c.args.docids.now c.args.scores.now) in
    let h = post c.args.d c.args.s in
    let e : c.loop-low.high ≡ c.loop-low.low = omega arith in
    (omega arith, insert-at h (post 0 0) c.loop-low.low x (omega (arith, long)) c.loop-low.invariant.2 (λ m. rw e at c.loop-low.invariant.3 (omega (arith, long))))
