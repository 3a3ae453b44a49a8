-- "Every field is a one-byte tag, a two-byte length and the value." Assumes nothing.
use Rattle.std.specs.Prelude.{ℕ, ◌+◌, List, ◌∷◌, ◌++◌, Bool, cond, ◌&&◌, leb, eqb, length, get_or, take, drop}
use Rattle.wire.specs.Number.{num, be}
use Rattle.std.specs.Prelude.{Option}
use Rattle.std.specs.Prelude.{Some, None}

-- what the two bytes past the tag say
unfoldable pub field_len : List ℕ → ℕ
field_len s = num 2 (drop 1 s)

-- the bytes begin with a field of this tag, to its last byte
unfoldable pub whole : ℕ → List ℕ → Bool
whole t s = leb 3 (length s) && (eqb (get_or s 0 0) t && leb (3 + field_len s) (length s))

unfoldable pub field_value : List ℕ → List ℕ
field_value s = take (field_len s) (drop 3 s)

unfoldable pub field_bytes : ℕ → List ℕ → List ℕ
field_bytes t v = (t ∷ be 2 (length v)) ++ v

-- the field at a place
unfoldable pub field_at : ℕ → List ℕ → ℕ → Option ℕ
field_at t s at = cond (whole t (drop at s)) (Some (field_len (drop at s))) None
