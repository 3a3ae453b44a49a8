-- "A query is a field tag 20, length 1 (k), then one field tag 21, length 5, per term: term (4), weight (1)." Tags are hexadecimal, as in the
-- paper's example. Refusals 1 to 5, each judged over the whole query before the next. Assumes nothing.
use Rattle.std.specs.Prelude.{ℕ, zero, suc, ◌+◌, ◌*◌, List, [], ◌∷◌, ◌++◌, map, Bool, true, false, cond, ◌&&◌, leb, ltb, eqb, length, drop, Result, Ok, Err}
use Rattle.model.specs.Limits.{max_k, max_terms}
use Rattle.model.specs.Outcome.{Outcome, refused, done, and_then}
use Rattle.model.specs.Runs.{has}
use Rattle.wire.specs.Number.{num, be}
use Rattle.wire.specs.Field.{whole, field_len, field_bytes}

pub record Asked : Type 0 where
  pub term : ℕ
  pub weight : ℕ

pub record Question : Type 0 where
  pub k : ℕ
  pub terms : List Asked

abbrev pub terms_of : List Asked → List ℕ
terms_of xs = map (λ (a : Asked). a.term) xs

abbrev pub weights_of : List Asked → List ℕ
weights_of xs = map (λ (a : Asked). a.weight) xs

-- ---- fields

-- tags 20 and 21
abbrev pub tag_k : ℕ
tag_k = 32

abbrev pub tag_term : ℕ
tag_term = 33

-- the bytes begin with a whole field of this tag and length
unfoldable pub is_field : (tag len : ℕ) → List ℕ → Bool
is_field tag len s = whole tag s && eqb (field_len s) len

-- the offset of the term field with index i: k's field takes 4 bytes, a term's 8
abbrev pub term_at : ℕ → ℕ
term_at i = 4 + 8 * i

-- "term (4), weight (1)", of the field with which the bytes begin
abbrev pub asked_in : List ℕ → Asked
asked_in s = record { term = num 4 (drop 3 s); weight = num 1 (drop 7 s) }

-- of the n term fields with which the bytes begin
unfoldable pub terms_in : (n : ℕ) → List ℕ → List Asked
terms_in zero s = []
terms_in (suc n) s = asked_in s ∷ terms_in n (drop 8 s)

-- what a query asks whose k is known and that has n term fields
abbrev pub question : (k n : ℕ) → List ℕ → Question
question k n s = record { k = k; terms = terms_in n (drop 4 s) }

-- "then one field tag 21, length 5, per term": how many there are when the query ends, where n stand before the bytes s; or the first that is not
-- so. There are fewer fields than bytes, so `fuel`, the number of bytes, is enough.
unfoldable pub term_count : (fuel n : ℕ) → List ℕ → Result ℕ ℕ
term_count zero n [] = Ok n
term_count zero n (b ∷ s) = Err (term_at n)
term_count (suc fuel) n [] = Ok n
term_count (suc fuel) n (b ∷ s) = cond (is_field tag_term 5 (b ∷ s)) (term_count fuel (n + 1) (drop 8 (b ∷ s))) (Err (term_at n))

-- "a field tag 20, length 1 (k)" before them
unfoldable pub field_count : List ℕ → Result ℕ ℕ
field_count s = cond (is_field tag_k 1 s) (term_count (length s) 0 (drop 4 s)) (Err 0)

-- ---- refusals

-- a refusal unless the test holds
abbrev pub unless : Bool → (number at : ℕ) → Outcome (Unit {0})
unless true number at = done tt
unless false number at = refused number at

-- 1: "query fields wrong or cut short: first such field, or query length", which is 0 in a query of no bytes
abbrev pub all_right : Result ℕ ℕ → Outcome ℕ
all_right (Ok n) = done n
all_right (Err at) = refused 1 at

-- 4: "weight 0: first such field", where i fields stand before these
abbrev pub weighted : (i : ℕ) → List Asked → Outcome (Unit {0})
weighted i [] = done tt
weighted i (a ∷ rest) = cond (eqb a.weight 0) (refused 4 (term_at i)) (weighted (i + 1) rest)

-- 5: "term twice: the second of the first pair to close", the first field whose term stands before it
abbrev pub unrepeated : (before : List ℕ) (i : ℕ) → List Asked → Outcome (Unit {0})
unrepeated before i [] = done tt
unrepeated before i (a ∷ rest) = cond (has a.term before) (refused 5 (term_at i)) (unrepeated (a.term ∷ before) (i + 1) rest)

-- 2 to 5, of a query of `size` bytes
unfoldable pub judge : (size : ℕ) → Question → Outcome (Unit {0})
judge size x =
    -- 2: "k not 1 to 100: 0"
    and_then (unless (ltb 0 x.k && leb x.k max_k) 2 0) (λ ok.
    -- 3: "no term, or more than 8: query length, or the ninth"
    and_then (unless (ltb 0 (length x.terms)) 3 size) (λ ok.
    and_then (unless (leb (length x.terms) max_terms) 3 (term_at max_terms)) (λ ok.
    and_then (weighted 0 x.terms) (λ ok.
    unrepeated [] 0 x.terms))))

-- what a query asks, or its refusal
unfoldable pub asked : List ℕ → Outcome Question
asked s =
    and_then (all_right (field_count s)) (λ n.
    let x = question (num 1 (drop 3 s)) n s in
    and_then (judge (length s) x) (λ ok. done x))

-- ---- writing

unfoldable pub term_bytes : List Asked → List ℕ
term_bytes [] = []
term_bytes (a ∷ rest) = field_bytes tag_term (be 4 a.term ++ be 1 a.weight) ++ term_bytes rest

unfoldable pub question_bytes : Question → List ℕ
question_bytes x = field_bytes tag_k (be 1 x.k) ++ term_bytes x.terms
