-- What comes after a call: a turn goes on with more bytes or fewer tries, or it is over. Assumes nothing.
use Prim.Native.Nat.{ℕ, ◌+◌, ◌-◌, ◌^◌, ◌≤◌, ◌<◌}
use native.Mathlib.Omega.{arith}
use mathlib.Core.Path.{◌≡◌, refl, sym, subst}
use mathlib.Core.Bool.{true, false, cond}
use mathlib.Core.List.{List}
use borrow.Author.Tests.{eqb-false}
use lib.Dec.{eqb}
use lib.ListN.{length, take, drop, length-take, length-drop}
use lib.Seq.{length-take-le}
use Rattle.console.specs.declared.call.Call.{Call}
use Rattle.console.specs.declared.call.Call.TheVariants.{Moved, Ended, Again, Failed}
use Rattle.std.specs.Prelude.{Option, Some, None}
use Rattle.std.specs.declared.ops.ControlFlow.{ControlFlow}
use Rattle.std.specs.declared.ops.ControlFlow.TheVariants.{Continue, Break}
use Rattle.console.specs.Calls.{next_of, Countable, Moving, Read}

-- `&run[at..]` as the checker has it
pub part-size : (run : List ℕ) (at : ℕ) → length (take (length run - at) (drop at run)) ≡ length run - at
part-size run at = simp (length-take, length-drop) (omega arith)

pub countable : (x : Call) (moved room : ℕ) → Moving x room → moved + room < 2 ^ 64 → Countable x moved
countable (Moved n) moved room m h = omega (arith, m.1)
countable Ended moved room m h = tt
countable Again moved room m h = tt
countable Failed moved room m h = tt

-- where it goes on: more bytes, or fewer tries
pub record Turned (moved tries room m left : ℕ) : Type 0 where
  pub within : m ≤ moved + room
  pub less : moved + left < m + tries

abbrev OnTo : (moved tries room : ℕ) → ControlFlow (Option ℕ) (ℕ × ℕ) → Type 0
OnTo moved tries room (Continue x) = Turned moved tries room x.0 x.1
OnTo moved tries room (Break g) = Unit {0}

on_to : (x : Call) (moved tries room : ℕ) → Moving x room → OnTo moved tries room (next_of x moved tries)
on_to (Moved n) moved tries room m = record { within = omega (arith, m.1); less = omega (arith, m.0) }
on_to Ended moved tries room m = tt
on_to Again moved tries room m = go (eqb tries 0) refl
  where
    go : (b : _) → eqb tries 0 ≡ b → OnTo moved tries room (cond b (Break None) (Continue (moved, tries - 1)))
    go true e = tt
    go false e = let l : (tries ≡ 0 → ⊥) = eqb-false tries 0 e in record { within = omega arith; less = omega arith }
on_to Failed moved tries room m = tt

pub turned : (x : Call) (moved tries room m left : ℕ) → Moving x room → next_of x moved tries ≡ Continue (m, left) → Turned moved tries room m left
turned x moved tries room m left h e = subst (OnTo moved tries room) e (on_to x moved tries room h)

-- where it is over: all bytes that were moved, or none
abbrev OverTo : List ℕ → ControlFlow (Option ℕ) (ℕ × ℕ) → Type 0
OverTo run (Continue x) = Unit {0}
OverTo run (Break g) = Read run g

pub read-wholly : (run : List ℕ) (n : ℕ) → n ≤ length run → Read run (Some n)
read-wholly run n h = record { within = h; part = sym (length-take-le n run h) }

over_to : (run : List ℕ) (x : Call) (moved tries : ℕ) → moved ≤ length run → OverTo run (next_of x moved tries)
over_to run (Moved n) moved tries h = tt
over_to run Ended moved tries h = read-wholly run moved h
over_to run Again moved tries h = go (eqb tries 0)
  where
    go : (b : _) → OverTo run (cond b (Break None) (Continue (moved, tries - 1)))
    go true = tt
    go false = tt
over_to run Failed moved tries h = tt

pub over : (run : List ℕ) (x : Call) (moved tries : ℕ) (g : Option ℕ) → moved ≤ length run → next_of x moved tries ≡ Break g → Read run g
over run x moved tries g h e = subst (OverTo run) e (over_to run x moved tries h)
