-- `wire::gap::gap_in` meets its contract. The invariant: the number is what its bytes so far and what is left of it make. Assumes nothing.
use Prim.Native.Nat.{ℕ, suc, ◌+◌, ◌*◌, ◌-◌, ◌%◌, ◌^◌, ◌≤◌, ◌<◌}
use native.Mathlib.Omega.{arith}
use native.Mathlib.Nat.{sub_self, sub-zero, pow-succ', pow-le-pow_right, mul-le-mul_left}
use mathlib.Core.Path.{◌≡◌, refl, ◌∙◌}
use lib.ListN.{get_or}
use Rattle.wire.proofs.Gaps.{whole-start, whole-more, gap-none, gap-end, gap-last}
use Rattle.wire.proofs.gap.gap_in.Invariants.{Placed}
use Rattle.wire.proofs.gap.gap_in.Goals as goal

low_bits : (v unit b : ℕ) → v < unit → b < 128 → v + unit * b < unit * 128
low_bits v unit b h l =
    let m : unit * b ≤ unit * 127 = mul-le-mul_left unit (omega arith) in
    omega (arith, m)

-- five bytes are far within 64 bits
byte_fits : (at most i left v unit b : ℕ) → Placed at most i left v unit → 0 < left → most ≤ 5 → b < 128 → v + unit * b < 128 ^ 5
byte_fits at most i left v unit b s p m l =
    let k : i - at ≤ 4 = omega (arith, s.1) in
    let four : 128 ^ (i - at) ≤ 128 ^ 4 = pow-le-pow_right {n = 128} (omega arith) k in
    omega (arith, four, s.2, low_bits v unit b s.3 l)

placed-next : (at most i left v unit b : ℕ) → Placed at most i left v unit → 0 < left → b < 128 → Placed at most (i + 1) (left - 1) (v + unit * b) (unit * 128)
placed-next at most i left v unit b s p l =
    let e : i + 1 - at ≡ suc (i - at) = omega (arith, s.0) in
    (omega (arith, s.0), omega (arith, s.0, s.1), rw (e, pow-succ' 128 (i - at)) (omega (arith, s.2)), low_bits v unit b s.3 l)

pub loop-turn-init : goal.loop-turn-init
loop-turn-init c = ((omega arith, omega arith, rw sub_self refl, omega arith), rw sub-zero (whole-start c.args.most c.args.s.now c.args.at))

pub returns-then-s-i : goal.returns-then-s-i
returns-then-s-i c =
    let a = c.args in
    let l = c.loop-turn in
    rw (l.invariant.1, gap-end (a.most - l.turn) a.s.now l.i c.if-s-i.true)

pub returns-then-b-at : goal.returns-then-b-at
returns-then-b-at c =
    let a = c.args in
    let l = c.loop-turn in
    rw (l.invariant.1, gap-last (a.most - l.turn) a.s.now l.i (λ e. omega arith) (omega arith) c.if-b-lt128.true, c.if-b-at.true)

pub overflow_mul-result : goal.overflow_mul-result
overflow_mul-result c =
    let a = c.args in
    let l = c.loop-turn in
    omega (arith, byte_fits a.at a.most l.i (a.most - l.turn) l.v l.unit (get_or a.s.now l.i 0) l.invariant.0 (omega arith) (omega arith) (omega arith))

pub overflow_add-result : goal.overflow_add-result
overflow_add-result c =
    let a = c.args in
    let l = c.loop-turn in
    omega (arith, byte_fits a.at a.most l.i (a.most - l.turn) l.v l.unit (get_or a.s.now l.i 0) l.invariant.0 (omega arith) (omega arith) (omega arith))

pub returns-then-b-lt128 : goal.returns-then-b-lt128
returns-then-b-lt128 c =
    let a = c.args in
    let l = c.loop-turn in
    rw (l.invariant.1, gap-last (a.most - l.turn) a.s.now l.i (λ e. omega arith) (omega arith) c.if-b-lt128.true, c.if-b-at.false)

pub overflow_mul-v : goal.overflow_mul-v
overflow_mul-v c =
    let a = c.args in
    let l = c.loop-turn in
    omega (arith, byte_fits a.at a.most l.i (a.most - l.turn) l.v l.unit (get_or a.s.now l.i 0 % 128) l.invariant.0 (omega arith) (omega arith) (omega arith))

pub overflow_add-v : goal.overflow_add-v
overflow_add-v c =
    let a = c.args in
    let l = c.loop-turn in
    omega (arith, byte_fits a.at a.most l.i (a.most - l.turn) l.v l.unit (get_or a.s.now l.i 0 % 128) l.invariant.0 (omega arith) (omega arith) (omega arith))

pub overflow_mul-unit : goal.overflow_mul-unit
overflow_mul-unit c =
    let a = c.args in
    let l = c.loop-turn in
    omega (arith, byte_fits a.at a.most l.i (a.most - l.turn) l.v l.unit (127) l.invariant.0 (omega arith) (omega arith) (omega arith))

pub loop-turn-preserved : goal.loop-turn-preserved
loop-turn-preserved c =
    let a = c.args in
    let l = c.loop-turn in
    let one_less : a.most - l.turn - 1 ≡ a.most - (l.turn + 1) = omega arith in (
      rw one_less at (placed-next a.at a.most l.i (a.most - l.turn) l.v l.unit (get_or a.s.now l.i 0 % 128) l.invariant.0 (omega arith) (omega arith)),
      l.invariant.1 ∙ rw one_less at (whole-more a.at l.i l.v l.unit (a.most - l.turn) a.s.now l.invariant.0.0 (omega arith) (omega arith) (omega arith)),
    )

pub returns : goal.returns
returns c =
    let a = c.args in
    let l = c.loop-turn in
    let z : (a.most - l.turn) ≡ 0 = omega arith in
    rw (l.invariant.1, z, gap-none a.s.now l.i)
