-- "The program reads standard input: fields tagged 20 or 21, while whole, are the query; the rest is the shelf." Tags are hexadecimal. A field's
-- length does not count here: a whole field of a wrong length is the query's, and is refused there. Assumes nothing.
use Rattle.std.specs.Prelude.{ℕ, zero, suc, ◌+◌, List, Bool, ◌||◌, cond, length, drop, Option, Some, None}
use Rattle.wire.specs.Field.{whole, field_len}

-- the bytes begin with a whole field of one of the query's tags
unfoldable pub of_query : List ℕ → Bool
of_query s = whole 0x20 s || whole 0x21 s

-- such a field at a place
unfoldable pub query_field_at : List ℕ → ℕ → Option ℕ
query_field_at s at = cond (of_query (drop at s)) (Some (field_len (drop at s))) None

-- the bytes of such fields off the front, of which there are at most `fuel`
unfoldable pub size_in : (fuel : ℕ) → List ℕ → ℕ
size_in zero s = 0
size_in (suc fuel) s = cond (of_query s) (3 + field_len s + size_in fuel (drop (3 + field_len s) s)) 0

-- the query's bytes: a field has three bytes or more, so there are no more fields than bytes
unfoldable pub query_size : List ℕ → ℕ
query_size s = size_in (length s) s
