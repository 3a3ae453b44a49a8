-- `wire::gap::gap_in` meets its contract. The invariant: the number is what its bytes so far and what is left of it make. Assumes nothing.
use Prim.Native.Nat.{ℕ, ◌+◌, ◌-◌, ◌^◌, ◌≤◌, ◌<◌}
use mathlib.Core.Path.{◌≡◌}
use Rattle.wire.specs.Gap.{gap_at}
use Rattle.wire.proofs.Gaps.{whole_at}
use Rattle.wire.proofs.gap.gap_in.Given as goal

-- the place, the bytes left, and what a one there is worth; the bytes before it are worth less than that
abbrev pub Placed : (at most i left v unit : ℕ) → Type 0
Placed at most i left v unit = (at ≤ i) × (i - at + left ≡ most) × (unit ≡ 128 ^ (i - at)) × (v < unit)

abbrev pub invariant-loop-turn : goal.invariant-loop-turn
invariant-loop-turn l = Placed l.at l.most l.i (l.most - l.turn) l.v l.unit × (gap_at l.most l.s l.at ≡ whole_at l.at l.i l.v l.unit (gap_at (l.most - l.turn) l.s l.i))
