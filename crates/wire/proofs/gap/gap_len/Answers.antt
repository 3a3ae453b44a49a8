-- `wire::gap_len` meets its contract: how many sevens there are, by the number's size. Assumes nothing.
use Rattle.wire.specs.Gap.{gap_in}
use Rattle.wire.proofs.Gaps.{in_last, in_step}
use Prim.Native.Nat.{ℕ, ◌/◌, ◌≤◌, ◌<◌}
use native.Mathlib.Omega.{arith}
use mathlib.Core.Path.{◌≡◌}
use lib.ListN.{length}
use Rattle.wire.proofs.gap.gap_len.Goals as goal

two : (g : ℕ) → 128 ≤ g → g < 16384 → 2 ≡ length (gap_in 5 g)
two g b h =
    let l : g / 128 < 128 = omega arith in
    rw (in_step 4 g b, in_last 3 (g / 128) l)

three : (g : ℕ) → 16384 ≤ g → g < 2097152 → 3 ≡ length (gap_in 5 g)
three g b h =
    let b1 : 128 ≤ g = omega arith in
    let b2 : 128 ≤ g / 128 = omega arith in
    let l : g / 128 / 128 < 128 = omega arith in
    rw (in_step 4 g b1, in_step 3 (g / 128) b2, in_last 2 (g / 128 / 128) l)

four : (g : ℕ) → 2097152 ≤ g → g < 268435456 → 4 ≡ length (gap_in 5 g)
four g b h =
    let b1 : 128 ≤ g = omega arith in
    let b2 : 128 ≤ g / 128 = omega arith in
    let b3 : 128 ≤ g / 128 / 128 = omega arith in
    let l : g / 128 / 128 / 128 < 128 = omega arith in
    rw (in_step 4 g b1, in_step 3 (g / 128) b2, in_step 2 (g / 128 / 128) b3, in_last 1 (g / 128 / 128 / 128) l)

five : (g : ℕ) → 268435456 ≤ g → g < 34359738368 → 5 ≡ length (gap_in 5 g)
five g b h =
    let b1 : 128 ≤ g = omega arith in
    let b2 : 128 ≤ g / 128 = omega arith in
    let b3 : 128 ≤ g / 128 / 128 = omega arith in
    let b4 : 128 ≤ g / 128 / 128 / 128 = omega arith in
    let l : g / 128 / 128 / 128 / 128 < 128 = omega arith in
    rw (in_step 4 g b1, in_step 3 (g / 128) b2, in_step 2 (g / 128 / 128) b3, in_step 1 (g / 128 / 128 / 128) b4, in_last 0 (g / 128 / 128 / 128 / 128) l)

pub returns-then-g-lt128 : goal.returns-then-g-lt128
returns-then-g-lt128 c = rw (in_last 4 c.args.g c.if-g-lt128.true)

pub returns-then-g-lt16384 : goal.returns-then-g-lt16384
returns-then-g-lt16384 c = two c.args.g c.if-g-lt128.false c.if-g-lt16384.true

pub returns-then-g-lt2097152 : goal.returns-then-g-lt2097152
returns-then-g-lt2097152 c = three c.args.g c.if-g-lt16384.false c.if-g-lt2097152.true

pub returns-then-g-lt268435456 : goal.returns-then-g-lt268435456
returns-then-g-lt268435456 c = four c.args.g c.if-g-lt2097152.false c.if-g-lt268435456.true

pub returns : goal.returns
returns c = five c.args.g c.if-g-lt268435456.false c.requires
