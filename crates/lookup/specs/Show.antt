-- "A list's reader shows its summaries and bodies as they stand in the lent shelf, without copying." For any place: where it is not of this
-- shelf, what does not fit is 12. Assumes nothing.
use Rattle.std.specs.Prelude.{ℕ, zero, suc, ◌+◌, ◌*◌, ◌≡◌, List, [], ◌∷◌, Bool, cond, ◌&&◌, leb, ltb, length, drop, Result, Ok, Err}
use Rattle.model.specs.Outcome.{Outcome, refused, done}
use Rattle.model.specs.Refusal.{number}
use Rattle.model.specs.declared.refusal.Refusal.{Refusal}
use Rattle.wire.specs.Field.{whole, field_len}
use Rattle.block.specs.Summary.{sum_of}
use Rattle.block.specs.Body.{is_strip, tag_of}
use Rattle.shelf.specs.Walk.{Block, bodies}
use Rattle.block.specs.declared.summary.Summary.{Summary}
use Rattle.shelf.specs.declared.walk.Place.{Place}
use Rattle.lookup.specs.declared.find.Span as declared

-- where the bodies of a list begin
abbrev pub bodies_from : Place → ℕ
bodies_from p = p.at + 8 + 12 * p.count

-- the list has a block j, and the shelf has room for its header and summaries
unfoldable pub has_block : List ℕ → Place → ℕ → Bool
has_block s p j = ltb j p.count && leb (bodies_from p) (length s)

-- "block .. not there: 12"; the list's bodies have the first one's layout
unfoldable pub summary_shown : List ℕ → Outcome Place → ℕ → Outcome Summary
summary_shown s (refused n o) j = refused n o
summary_shown s (done p) j = cond (has_block s p j) (done (sum_of (is_strip (drop (bodies_from p) s)) (drop (p.at + 8 + 12 * j) s))) (refused 12 0)

-- a part of the shelf: where it starts, and the place past it
abbrev pub Span : Type 0
Span = declared.Span

-- the body whose tag stands at a place: where its value starts and ends
unfoldable pub part_at : List ℕ → ℕ → Outcome Span
part_at s b = cond (whole (tag_of (is_strip (drop b s))) (drop b s)) (done (record { start = b + 3; end = b + 3 + field_len (drop b s) })) (refused 12 0)

-- past the bodies before it
abbrev pub part_past : List ℕ → Outcome ℕ → Outcome Span
part_past s (done b) = part_at s b
part_past s (refused n o) = refused 12 0

unfoldable pub body_shown : List ℕ → Outcome Place → ℕ → Outcome Span
body_shown s (refused n o) j = refused n o
body_shown s (done p) j = cond (has_block s p j) (part_past s (bodies j (bodies_from p) (drop (bodies_from p) s))) (refused 12 0)

-- ---- an answer whose error is the caller's own; `gives` says which error is made of a refusal

-- the value; or an error that is made of the refusal
abbrev pub Shown : {A E : Type 0} → (gives : Refusal → E → Type 0) → Outcome A → Result A E → Type 0
Shown gives o (Ok x) = o ≡ done x
Shown gives o (Err e) = (r : Refusal) × (o ≡ refused (number r.fault) r.offset) × gives r e

-- what is shown of a list; an error that stands in its place is handed on as it is
abbrev pub ShownOf : {A E : Type 0} → (gives : Refusal → E → Type 0) → Result Place E → (Place → Outcome A) → Result A E → Type 0
ShownOf gives (Ok p) of result = Shown gives (of p) result
ShownOf gives (Err e) of result = result ≡ Err e

-- ---- the same in terms of a list's blocks

abbrev pub block_of : List Block → ℕ → Outcome Block
block_of [] j = refused 12 0
block_of (b ∷ bs) zero = done b
block_of (b ∷ bs) (suc j) = block_of bs j

-- where a block's body stands in the shelf, past its tag and length
abbrev pub span_of : Block → Span
span_of b = record { start = b.body_at + 3; end = b.body_at + 3 + length b.body }

abbrev pub summary_of_block : Outcome Block → Outcome Summary
summary_of_block (done b) = done b.sum
summary_of_block (refused n o) = refused n o

abbrev pub part_of_block : Outcome Block → Outcome Span
part_of_block (done b) = done (span_of b)
part_of_block (refused n o) = refused n o
