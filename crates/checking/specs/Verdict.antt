-- What the checker program prints for its input, which is a shelf: `sound`, or the line of the refusal. Assumes nothing.
use Rattle.std.specs.Prelude.{ℕ, List}
use Rattle.model.specs.Outcome.{Outcome, refused, done}
use Rattle.shelf.specs.Check.{checked, judged}
use Rattle.lines.specs.Text.{codes, refusal_line}

abbrev pub verdict_text : Outcome (Unit {0}) → List ℕ
verdict_text (refused number offset) = refusal_line number offset
verdict_text (done tt) = codes "sound\n"

-- "A shelf is sound when the checker finds nothing."
unfoldable pub checked_text : List ℕ → List ℕ
checked_text s = verdict_text (judged (checked s))
