-- The program's output, by whether its input was too long. Assumes nothing.
use Prim.Native.Nat.{ℕ, ◌-◌, ◌≤◌, ◌<◌}
use native.Mathlib.Omega.{arith}
use mathlib.Core.Path.{◌≡◌}
use borrow.Author.Tests.{lt-ltb, le-ltb}
use mathlib.Core.List.{List}
use lib.ListN.{length, take, drop}
use Rattle.model.specs.Runs.{Stored, Holds}
use Rattle.model.proofs.Storing.{stored-holds, part_end}
use Rattle.lines.specs.Split.{query_size}
use Rattle.lines.specs.Text.{refusal_line, text}
use Rattle.lines.specs.Book.{max_output}
use Rattle.lines.proofs.Sizes.{refusal-short}
use Rattle.report.specs.Report.{max_input, search_shown, reported}

module _ (input l m : List ℕ) (q : ℕ) where
  pub too_long : max_input < length input → max_output ≤ length l → Stored l m 0 q (refusal_line 13 0) → Holds l (reported input) m q
  unfolding reported
  too_long e room s = rw (lt-ltb max_input (length input) e) (stored-holds (omega (arith, refusal-short 13 0)) s)

  -- the two parts as the code cuts them
  pub searches : (n : ℕ) → length input ≤ max_input → n ≡ query_size input
      → Holds l (text (search_shown (take (n - 0) (drop 0 input)) (take (length input - n) (drop n input)))) m q → Holds l (reported input) m q
  unfolding reported
  searches n e f h =
      let z : n - 0 ≡ n = omega arith in
      rw (le-ltb max_input (length input) e, ← f) (rw (z, part_end n input) at h)
