-- A block's summary: a field tag 02, length 9. Assumes nothing.
use Rattle.std.specs.Prelude.{ℕ, ◌+◌, ◌-◌, List, [], ◌∷◌, ◌++◌, Bool, false, cond, ◌&&◌, ◌||◌, leb, ltb, eqb, length, drop}
use Rattle.model.specs.Limits.{per_block}
use Rattle.model.specs.Post.{Post, last_doc, top_score}
use Rattle.wire.specs.Number.{num, be}
use Rattle.wire.specs.Field.{whole, field_len, field_bytes}
use Rattle.block.specs.declared.summary.Summary.{Summary}
use Rattle.std.specs.Prelude.{Option}
use Rattle.std.specs.Prelude.{Some, None}

-- the bytes begin with a field that has the form of a summary
unfoldable pub is_sum : List ℕ → Bool
is_sum s = whole 2 s && eqb (field_len s) 9

-- "least docid (3), greatest docid (3), greatest score (2), posting count (1)", past the tag and the length; the layout is the body's
unfoldable pub sum_of : (strip : Bool) → List ℕ → Summary
sum_of strip s = record { least = num 3 (drop 3 s); greatest = num 3 (drop 6 s); top = num 2 (drop 9 s); count = num 1 (drop 11 s); strip = strip }

unfoldable pub sum_bytes : Summary → List ℕ
sum_bytes m = field_bytes 2 (be 3 m.least ++ (be 3 m.greatest ++ (be 2 m.top ++ be 1 m.count)))

-- the summary at a place, for the walk, which looks at its numbers alone
unfoldable pub sum_at : List ℕ → ℕ → Option Summary
sum_at s at = cond (is_sum (drop at s)) (Some (sum_of false (drop at s))) None

-- "A summary is wrong if least is 0 or above greatest, greatest score is 0, count is not 1 to 100 or exceeds greatest - least + 1,
-- count is 1 while least and greatest differ, or least is not above the previous block's greatest." Before a list's first block that is 0,
-- so the last test says least is not 0 too.
unfoldable pub right_sum : (prev : ℕ) → Summary → Bool
right_sum prev m =
    ltb prev m.least && (leb m.least m.greatest && (ltb 0 m.top && (ltb 0 m.count && (leb m.count per_block
    && (leb m.count (m.greatest - m.least + 1) && (ltb 1 m.count || eqb m.least m.greatest))))))

-- the summary of some postings
abbrev pub summary_of : (strip : Bool) → List Post → Summary
summary_of strip [] = record { least = 0; greatest = 0; top = 0; count = 0; strip = strip }
summary_of strip (p ∷ ps) = record { least = p.doc; greatest = last_doc p.doc ps; top = top_score 0 (p ∷ ps); count = length (p ∷ ps); strip = strip }
