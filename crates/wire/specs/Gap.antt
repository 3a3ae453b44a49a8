-- The gap number and the score, the two numbers of a body. Assumes nothing.
use Rattle.std.specs.Prelude.{ℕ, zero, suc, ◌+◌, ◌*◌, ◌/◌, ◌%◌, List, [], ◌∷◌, cond, ◌&&◌, leb, ltb, eqb, length, drop}
use Rattle.wire.specs.Read.{Read, got, stopped}
use Rattle.wire.specs.Number.{num}
use Rattle.std.specs.Prelude.{Result}
use Rattle.std.specs.Prelude.{Ok, Err}

-- a byte of seven low bits in front of a number, which is not 0: "no zero last byte unless it is the only one"
unfoldable pub more : ℕ → Read ℕ → Read ℕ
more b (got v k) = cond (eqb v 0) (stopped 0) (got (b % 128 + 128 * v) (1 + k))
more b (stopped k) = stopped 0

-- "seven bits a byte, low first, high bit set on all but the last byte", in at most `most` bytes
unfoldable pub gap : (most : ℕ) → List ℕ → Read ℕ
gap zero s = stopped 0
gap (suc n) [] = stopped 0
gap (suc n) (b ∷ s) = cond (ltb b 128) (got b 1) (more b (gap n s))

-- the bytes of v, of which there are at most n
unfoldable pub gap_in : ℕ → ℕ → List ℕ
gap_in zero v = []
gap_in (suc n) v = cond (ltb v 128) (v ∷ []) ((128 + v % 128) ∷ gap_in n (v / 128))

-- five bytes are enough for every gap between two 32-bit docids
abbrev pub gap_bytes : ℕ → List ℕ
gap_bytes v = gap_in 5 v

-- a score is two bytes, and not 0
unfoldable pub score : List ℕ → Read ℕ
score s = cond (leb 2 (length s) && ltb 0 (num 2 s)) (got (num 2 s) 2) (stopped 0)

-- what reading at a place gives: the number and the place past it; or the place of what is at fault
abbrev pub read_past : ℕ → Read ℕ → Result (ℕ × ℕ) ℕ
read_past at (got v k) = Ok (v, at + k)
read_past at (stopped k) = Err (at + k)

unfoldable pub gap_at : (most : ℕ) → List ℕ → ℕ → Result (ℕ × ℕ) ℕ
gap_at most s at = read_past at (gap most (drop at s))

unfoldable pub score_at : List ℕ → ℕ → Result (ℕ × ℕ) ℕ
score_at s at = read_past at (score (drop at s))
