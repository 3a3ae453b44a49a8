-- The paper's query and the corners of refusals 1 to 5, by computation. Assumes nothing.
use Prim.Native.Nat.{ℕ}
use mathlib.Core.Path.{◌≡◌, refl}
use mathlib.Core.List.{List, [], ◌∷◌, ◌++◌, map}
use lib.ListN.{take}
use Rattle.model.specs.Outcome.{Outcome, refused, done}
use Rattle.wire.specs.Number.{num, be}
use Rattle.wire.specs.Field.{field_len, whole, field_bytes}
use Rattle.query.specs.Query.{Asked, Question, is_field, terms_in, term_count, field_count, judge, asked, term_bytes, question_bytes}

-- some bytes, and what they give as a query
pub record Case : Type 0 where
  pub query : List ℕ
  pub gives : Outcome Question

abbrev case : List ℕ → Outcome Question → Case
case s o = record { query = s; gives = o }

abbrev a : ℕ → ℕ → Asked
a t w = record { term = t; weight = w }

abbrev ask : ℕ → List Asked → Question
ask k xs = record { k = k; terms = xs }

-- terms 1 to 8
abbrev eight : List Asked
eight = a 1 1 ∷ a 2 1 ∷ a 3 1 ∷ a 4 1 ∷ a 5 1 ∷ a 6 1 ∷ a 7 1 ∷ a 8 1 ∷ []

-- "Query `20 0001 01`, `21 0005 00000007 01`, `21 0005 00000009 02`"
abbrev paper_query : List ℕ
paper_query = (32 ∷ 0 ∷ 1 ∷ 1 ∷ []) ++ ((33 ∷ 0 ∷ 5 ∷ 0 ∷ 0 ∷ 0 ∷ 7 ∷ 1 ∷ []) ++ (33 ∷ 0 ∷ 5 ∷ 0 ∷ 0 ∷ 0 ∷ 9 ∷ 2 ∷ []))

-- the query cut after n bytes
abbrev cut : ℕ → ℕ → Case
cut n at = case (take n paper_query) (refused 1 at)

abbrev accepts : Question → Case
accepts x = case (question_bytes x) (done x)

abbrev refuses : Question → ℕ → ℕ → Case
refuses x number at = case (question_bytes x) (refused number at)

abbrev pub cases : List Case
cases =
    case paper_query (done (ask 1 (a 7 1 ∷ a 9 2 ∷ [])))
    -- 1: no byte; cut at each byte of a field
    ∷ case [] (refused 1 0)
    ∷ cut 1 0 ∷ cut 2 0 ∷ cut 3 0
    ∷ cut 5 4 ∷ cut 6 4 ∷ cut 7 4 ∷ cut 8 4 ∷ cut 9 4 ∷ cut 10 4 ∷ cut 11 4
    ∷ cut 13 12 ∷ cut 19 12
    -- a field of another tag or length; k's field twice
    ∷ case (33 ∷ 0 ∷ 1 ∷ 1 ∷ []) (refused 1 0)
    ∷ case (32 ∷ 0 ∷ 2 ∷ 1 ∷ 1 ∷ []) (refused 1 0)
    ∷ case (paper_query ++ (33 ∷ 0 ∷ 6 ∷ 0 ∷ 0 ∷ 0 ∷ 8 ∷ 1 ∷ 1 ∷ [])) (refused 1 20)
    ∷ case (paper_query ++ (34 ∷ 0 ∷ 5 ∷ 0 ∷ 0 ∷ 0 ∷ 8 ∷ 1 ∷ [])) (refused 1 20)
    ∷ case (paper_query ++ (32 ∷ 0 ∷ 1 ∷ 1 ∷ [])) (refused 1 20)
    -- it comes first: before k, before a ninth term, before a weight of 0
    ∷ case (question_bytes (ask 0 (a 7 1 ∷ [])) ++ (33 ∷ 0 ∷ 5 ∷ 0 ∷ [])) (refused 1 12)
    ∷ case (question_bytes (ask 1 (eight ++ (a 9 1 ∷ []))) ++ (33 ∷ 0 ∷ 6 ∷ 0 ∷ 0 ∷ 0 ∷ 9 ∷ 1 ∷ 1 ∷ [])) (refused 1 76)
    ∷ case (question_bytes (ask 1 (a 7 0 ∷ [])) ++ (33 ∷ [])) (refused 1 12)
    -- 2: k 0, 1, 100, 101; before a query of no term
    ∷ refuses (ask 0 (a 7 1 ∷ [])) 2 0
    ∷ accepts (ask 1 (a 7 1 ∷ []))
    ∷ accepts (ask 100 (a 7 1 ∷ []))
    ∷ refuses (ask 101 (a 7 1 ∷ [])) 2 0
    ∷ refuses (ask 0 []) 2 0
    -- 3: terms 0, 8, 9; before a weight of 0
    ∷ refuses (ask 1 []) 3 4
    ∷ accepts (ask 1 eight)
    ∷ refuses (ask 1 (eight ++ (a 9 1 ∷ []))) 3 68
    ∷ refuses (ask 1 (a 9 0 ∷ eight)) 3 68
    -- 4: a weight of 0, the first; before a term twice; 255 is a weight
    ∷ refuses (ask 1 (a 7 1 ∷ a 9 0 ∷ a 8 0 ∷ [])) 4 12
    ∷ refuses (ask 1 (a 7 1 ∷ a 7 1 ∷ a 8 0 ∷ [])) 4 20
    ∷ accepts (ask 1 (a 4294967295 255 ∷ a 0 1 ∷ []))
    -- 5: the second of the first pair to close
    ∷ refuses (ask 1 (a 7 1 ∷ a 9 1 ∷ a 9 1 ∷ a 7 1 ∷ [])) 5 20
    ∷ refuses (ask 1 (a 7 1 ∷ a 9 1 ∷ a 7 1 ∷ a 9 1 ∷ [])) 5 20
    ∷ []

pub examples : map (λ (c : Case). asked c.query) cases ≡ map (λ (c : Case). c.gives) cases
unfolding asked question_bytes term_bytes judge field_count term_count terms_in is_field whole field_len field_bytes num be
examples = refl
