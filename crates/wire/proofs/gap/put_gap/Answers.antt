-- `wire::put_gap` meets its contract. The invariant: to store what is left of the number from here gives what is asked. Assumes nothing.
use Rattle.wire.specs.Gap.{gap_in}
use Rattle.wire.proofs.Gaps.{in_last, in_step, in_some}
use Prim.Native.Nat.{ℕ, zero, suc, ◌+◌, ◌/◌, ◌%◌, ◌^◌, ◌≤◌, ◌<◌}
use native.Mathlib.Omega.{arith}
use native.Mathlib.Numerals.{add-one}
use mathlib.Core.Path.{◌≡◌}
use mathlib.Core.List.{List}
use lib.ListN.{length, set, length-set}
use lib.Seq.{sets}
use Rattle.wire.proofs.gap.put_gap.Goals as goal

-- a turn: the low seven bits are stored, and the rest of the number is left
turn : (out₀ out : List ℕ) (at g n i f : ℕ) → 128 ≤ n → n < 128 ^ suc f → length out ≡ length out₀
    → i + length (gap_in (suc f) n) ≡ at + length (gap_in 5 g) → sets out i (gap_in (suc f) n) ≡ sets out₀ at (gap_in 5 g)
    → (x : ℕ) × (n / 128 < 128 ^ suc x) × (length (set out i (128 + n % 128)) ≡ length out₀)
    × (i + 1 + length (gap_in (suc x) (n / 128)) ≡ at + length (gap_in 5 g))
    × (sets (set out i (128 + n % 128)) (i + 1) (gap_in (suc x) (n / 128)) ≡ sets out₀ at (gap_in 5 g))
turn out₀ out at g n i zero big small len end all = absurd (omega arith)
turn out₀ out at g n i (suc f) big small len end all = (
  f,
  omega arith,
  simp length-set len,
  omega (arith, simp (in_step (suc f) n big) at end),
  rw add-one (simp (in_step (suc f) n big) at all),
)

pub bounds-out-i : goal.bounds-out-i
bounds-out-i c = omega (arith, in_some c.loop-n.invariant.0 c.loop-n.n)

pub loop-n-preserved : goal.loop-n-preserved
loop-n-preserved c =
    let v = c.loop-n.invariant in
    turn c.args.out.now c.loop-n.out c.args.at c.args.g
    c.loop-n.n c.loop-n.i v.0 c.loop-n-test.true v.1 v.2 v.3 v.4

pub bounds-out-i-2 : goal.bounds-out-i-2
bounds-out-i-2 c = omega (arith, in_some c.loop-n.invariant.0 c.loop-n.n)

pub returns : goal.returns
returns c =
    let v = c.loop-n.invariant in
    let e = in_last v.0 c.loop-n.n c.loop-n-test.false in
    record { past = omega (arith, simp e at v.3); whole = simp e at v.4 }
