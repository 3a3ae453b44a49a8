-- What a call of the system answered, and what comes of it. A call is handed some bytes; it answers how many it moved, 0 at the end, or an error: so
-- std's `io::Result` tells it. Assumes nothing.
use Rattle.std.specs.Prelude.{ℕ, ◌+◌, ◌-◌, ◌^◌, ◌≤◌, ◌<◌, min, ◌≡◌, cond, List, eqb, length, take, Option, Some, None, Result, Ok, Err}
use Rattle.std.specs.declared.ops.ControlFlow.{ControlFlow}
use Rattle.std.specs.declared.ops.ControlFlow.TheVariants.{Continue, Break}
use Rattle.std.specs.IoError.{error_kind}
use Rattle.std.specs.declared.io.Error.{Error}
use Rattle.std.specs.declared.io.ErrorKind.{ErrorKind}
use Rattle.std.specs.declared.io.ErrorKind.TheVariants.{Interrupted}
use Rattle.console.specs.declared.call.Call.{Call}
use Rattle.console.specs.declared.call.Call.TheVariants.{Moved, Ended, Again, Failed}

-- the call under std's left an error: all that is asked of it is whether a signal interrupted the call
abbrev pub error_of : ErrorKind → Call
error_of Interrupted = Again
error_of _ = Failed

-- above 0: bytes were moved, and no more than there was room for; 0: the end; else by the error
unfoldable pub call_of : Result ℕ Error → (room : ℕ) → Call
call_of (Ok n) room = cond (eqb n 0) Ended (Moved (min n room))
call_of (Err e) room = error_of (error_kind e)

-- a write that moves nothing has failed
abbrev pub sent_of : Call → Call
sent_of (Moved n) = Moved n
sent_of Ended = Failed
sent_of Again = Again
sent_of Failed = Failed

-- what comes after a call, with the bytes moved before it and the tries that are left: on, with those that then are moved and left; or it is over: all
-- bytes are there, or none counts
abbrev pub next_of : Call → (moved tries : ℕ) → ControlFlow (Option ℕ) (ℕ × ℕ)
next_of (Moved n) moved tries = Continue (moved + n, tries)
next_of Ended moved tries = Break (Some moved)
next_of Again moved tries = cond (eqb tries 0) (Break None) (Continue (moved, tries - 1))
next_of Failed moved tries = Break None

-- ---- the contracts

-- the bytes that a call moved can be counted with those before it
abbrev pub Countable : Call → ℕ → Type 0
Countable (Moved n) moved = moved + n < 2 ^ 64
Countable Ended moved = Unit {0}
Countable Again moved = Unit {0}
Countable Failed moved = Unit {0}

-- a call that was handed `room` bytes moves some of them, where it moves any
abbrev pub Moving : Call → (room : ℕ) → Type 0
Moving (Moved n) room = (0 < n) × (n ≤ room)
Moving Ended room = Unit {0}
Moving Again room = Unit {0}
Moving Failed room = Unit {0}

-- what was read stands at the front of the run
pub record Got (run : List ℕ) (n : ℕ) : Type 0 where
  pub within : n ≤ length run
  pub part : n ≡ length (take n run)

-- where it is not whole, there is nothing
abbrev pub Read : (run : List ℕ) → Option ℕ → Type 0
Read run (Some n) = Got run n
Read run None = Unit {0}
