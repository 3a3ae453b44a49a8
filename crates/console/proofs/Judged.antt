-- What a call answered, by the tests that the code makes, and what it moves. Assumes nothing.
use Prim.Native.Nat.{ℕ, ◌<◌, min}
use native.Mathlib.Omega.{arith}
use mathlib.Core.Path.{◌≡◌, refl}
use mathlib.Core.Bool.{true, false, cond}
use borrow.Author.Tests.{eqb-false, ne_eqb}
use lib.Dec.{eqb}
use Rattle.std.specs.Prelude.{Result, Ok, Err}
use Rattle.std.specs.IoError.{error_kind}
use Rattle.std.specs.declared.io.Error.{Error}
use Rattle.std.specs.declared.io.ErrorKind.{ErrorKind}
use Rattle.std.specs.declared.io.ErrorKind.TheVariants.{Interrupted}
use Rattle.console.specs.declared.call.Call.{Call}
use Rattle.console.specs.declared.call.Call.TheVariants.{Moved, Ended, Again, Failed}
use Rattle.console.specs.Calls.{error_of, call_of, sent_of, Moving}

module _ (a : Result ℕ Error) (room : ℕ) where
  pub call-end : a ≡ Ok 0 → Ended ≡ call_of a room
  unfolding call_of
  call-end e = rw e

  pub call-moves : (n m : ℕ) → a ≡ Ok n → (n ≡ 0 → ⊥) → m ≡ min n room → Moved m ≡ call_of a room
  unfolding call_of
  call-moves n m e z f = rw (e, ne_eqb n 0 z, f)

  module _ (x : Error) (e : a ≡ Err x) where
    pub call-again : error_kind x ≡ Interrupted → Again ≡ call_of a room
    unfolding call_of
    call-again f = rw (e, f)

    pub call-fails : (error_kind x ≡ Interrupted → ⊥) → Failed ≡ call_of a room
    unfolding call_of
    call-fails f = rw e (fails (error_kind x) f)
      where
        fails : (k : ErrorKind) → (k ≡ Interrupted → ⊥) → Failed ≡ error_of k
        fails Interrupted g = absurd (g refl)
        fails _ g = refl

-- ---- where there is room for something

moving_error : (k : ErrorKind) (room : ℕ) → Moving (error_of k) room
moving_error Interrupted room = tt
moving_error _ room = tt

moving : (a : Result ℕ Error) (room : ℕ) → 0 < room → Moving (call_of a room) room
unfolding call_of
moving (Ok n) room h = go (eqb n 0) refl
  where
    go : (b : _) → eqb n 0 ≡ b → Moving (cond b Ended (Moved (min n room))) room
    go true f = tt
    go false f = let l : (n ≡ 0 → ⊥) = eqb-false n 0 f in (omega arith, omega arith)
moving (Err e) room h = moving_error (error_kind e) room

-- what was judged, and what was sent
pub moving_judged : (a : Result ℕ Error) (room : ℕ) (r : Call) → 0 < room → r ≡ call_of a room → Moving r room
moving_judged a room r h f = rw f (moving a room h)

pub moving_sent : (x : Call) (room : ℕ) (r : Call) → Moving x room → r ≡ sent_of x → Moving r room
moving_sent x room r h f = rw f (go x h)
  where
    go : (y : Call) → Moving y room → Moving (sent_of y) room
    go (Moved n) m = m
    go Ended m = tt
    go Again m = tt
    go Failed m = tt
