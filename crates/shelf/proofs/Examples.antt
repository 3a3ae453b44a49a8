-- Corner cases of the checker, by computation: one table, one statement. Assumes nothing.
use Prim.Native.Nat.{ℕ, zero, suc}
use mathlib.Core.Path.{◌≡◌, refl}
use mathlib.Core.List.{List, [], ◌∷◌, ◌++◌, map}
use lib.ListN.{take}
use Rattle.model.specs.Outcome.{Outcome, refused, done}
use Rattle.wire.specs.Number.{num, be}
use Rattle.wire.specs.Field.{field_len, whole, field_value, field_bytes}
use Rattle.wire.specs.Gap.{more, gap, score}
use Rattle.block.specs.Summary.{is_sum, sum_of, right_sum}
use Rattle.block.specs.Body.{is_strip, edge, gapped, posting, posts, body_posts, right_body}
use Rattle.shelf.specs.Walk.{head_term, head_count, right_head, one_sum, sums, one_body, bodies_of, bodies, blocks_of, list, lists, walk}
use Rattle.shelf.specs.Check.{checked, judged}

-- ---- fields, right or wrong

abbrev header : (term count : ℕ) → List ℕ
header t n = field_bytes 1 (be 4 t ++ be 1 n)

abbrev summary : (least greatest top count : ℕ) → List ℕ
summary a z w n = field_bytes 2 (be 3 a ++ (be 3 z ++ (be 2 w ++ be 1 n)))

abbrev body : List ℕ → List ℕ
body v = field_bytes 3 v

abbrev strip : List ℕ → List ℕ
strip v = field_bytes 4 v

-- a list of one posting, 25 bytes: docid 2 with score 5
abbrev single : ℕ → List ℕ
single t = header t 1 ++ (summary 2 2 5 1 ++ body (0 ∷ 5 ∷ []))

-- the paper's shelf: its fields begin at 0, 8, 20, 32, 40, 45, 53 and 65, and its second list at 45
abbrev paper_shelf : List ℕ
paper_shelf =
    header 7 2 ++ (summary 2 4 5 2 ++ (summary 9 9 1 1 ++ (body (0 ∷ 5 ∷ 1 ∷ 0 ∷ 3 ∷ []) ++ (body (0 ∷ 1 ∷ [])
    ++ (header 9 1 ++ (summary 4 6 4 2 ++ body (0 ∷ 4 ∷ 1 ∷ 0 ∷ 2 ∷ [])))))))

-- ---- the table

pub record Case : Type 0 where
  pub bytes : List ℕ
  pub answer : Outcome (Unit {0})

abbrev is : List ℕ → Outcome (Unit {0}) → Case
is s r = record { bytes = s; answer = r }

abbrev pub corners : List Case
corners =
    -- the empty shelf; the paper's
    is [] (done tt)
    ∷ is paper_shelf (done tt)
    -- terms equal, falling
    ∷ is (single 7 ++ single 7) (refused 6 25)
    ∷ is (single 9 ++ single 7) (refused 6 25)
    -- no block, 65 blocks
    ∷ is (header 7 0) (refused 6 0)
    ∷ is (header 7 65) (refused 6 0)
    -- a wrong summary before a missing field; a field of the wrong form before a wrong summary; a wrong summary before a header that repeats its term
    ∷ is (header 7 1 ++ summary 2 1 5 1) (refused 7 8)
    ∷ is (header 7 2 ++ (body [] ++ summary 0 1 5 1)) (refused 6 8)
    ∷ is (header 7 1 ++ (summary 2 2 0 1 ++ (body (0 ∷ 5 ∷ []) ++ single 7))) (refused 7 8)
    -- each reason for a wrong summary: least 0, least above greatest, greatest score 0, count 0 or 101, more postings than docids, one posting on two docids, a block that begins where the one before it ends
    ∷ is (header 7 1 ++ (summary 0 2 5 1 ++ body (0 ∷ 5 ∷ []))) (refused 7 8)
    ∷ is (header 7 1 ++ (summary 3 2 5 1 ++ body (0 ∷ 5 ∷ []))) (refused 7 8)
    ∷ is (header 7 1 ++ (summary 2 2 0 1 ++ body (0 ∷ 5 ∷ []))) (refused 7 8)
    ∷ is (header 7 1 ++ (summary 2 2 5 0 ++ body (0 ∷ 5 ∷ []))) (refused 7 8)
    ∷ is (header 7 1 ++ (summary 2 202 5 101 ++ body (0 ∷ 5 ∷ []))) (refused 7 8)
    ∷ is (header 7 1 ++ (summary 2 3 5 3 ++ body (0 ∷ 5 ∷ []))) (refused 7 8)
    ∷ is (header 7 1 ++ (summary 2 3 5 1 ++ body (0 ∷ 5 ∷ []))) (refused 7 8)
    ∷ is (header 7 2 ++ (summary 2 4 5 2 ++ (summary 4 4 5 1 ++ (body (0 ∷ 5 ∷ 1 ∷ 0 ∷ 3 ∷ []) ++ body (0 ∷ 5 ∷ []))))) (refused 7 20)
    -- a wrong body comes after every fault of number 6 or 7
    ∷ is (header 7 1 ++ (summary 2 2 5 1 ++ (body (0 ∷ 4 ∷ []) ++ single 7))) (refused 6 25)
    -- a body of no bytes, one byte, with a byte left over; a zero score; a stored greatest score too large
    ∷ is (header 7 1 ++ (summary 2 2 5 1 ++ body [])) (refused 8 20)
    ∷ is (header 7 1 ++ (summary 2 2 5 1 ++ body (0 ∷ []))) (refused 8 20)
    ∷ is (header 7 1 ++ (summary 2 2 5 1 ++ body (0 ∷ 5 ∷ 0 ∷ []))) (refused 8 20)
    ∷ is (header 7 1 ++ (summary 2 2 5 1 ++ body (0 ∷ 0 ∷ []))) (refused 8 20)
    ∷ is (header 7 1 ++ (summary 2 2 6 1 ++ body (0 ∷ 5 ∷ []))) (refused 8 20)
    -- the least and the greatest docid in one block, four bytes of gap; the same with a fifth byte; a needless zero last byte
    ∷ is (header 7 1 ++ (summary 1 16777215 5 2 ++ body (0 ∷ 5 ∷ 253 ∷ 255 ∷ 255 ∷ 7 ∷ 0 ∷ 5 ∷ []))) (done tt)
    ∷ is (header 7 1 ++ (summary 1 16777215 5 2 ++ body (0 ∷ 5 ∷ 253 ∷ 255 ∷ 255 ∷ 135 ∷ 0 ∷ 0 ∷ 5 ∷ []))) (refused 8 20)
    ∷ is (header 7 1 ++ (summary 2 4 5 2 ++ body (0 ∷ 5 ∷ 129 ∷ 0 ∷ 0 ∷ 3 ∷ []))) (refused 8 20)
    -- gap numbers 127 and 128
    ∷ is (header 7 1 ++ (summary 1 129 5 2 ++ body (0 ∷ 5 ∷ 127 ∷ 0 ∷ 3 ∷ []))) (done tt)
    ∷ is (header 7 1 ++ (summary 1 130 5 2 ++ body (0 ∷ 5 ∷ 128 ∷ 1 ∷ 0 ∷ 3 ∷ []))) (done tt)
    -- strips: of one posting, of two; the paper's first list in strips
    ∷ is (header 7 1 ++ (summary 2 2 5 1 ++ strip (0 ∷ 5 ∷ []))) (done tt)
    ∷ is (header 7 1 ++ (summary 1 130 5 2 ++ strip (128 ∷ 1 ∷ 0 ∷ 5 ∷ 0 ∷ 3 ∷ []))) (done tt)
    ∷ is (header 7 2 ++ (summary 2 4 5 2 ++ (summary 9 9 1 1 ++ (strip (1 ∷ 0 ∷ 5 ∷ 0 ∷ 3 ∷ []) ++ strip (0 ∷ 1 ∷ []))))) (done tt)
    -- mixed tags in one list, in either order, and a body of neither; two lists may differ
    ∷ is (header 7 2 ++ (summary 2 4 5 2 ++ (summary 9 9 1 1 ++ (strip (1 ∷ 0 ∷ 5 ∷ 0 ∷ 3 ∷ []) ++ body (0 ∷ 1 ∷ []))))) (refused 6 40)
    ∷ is (header 7 2 ++ (summary 2 4 5 2 ++ (summary 9 9 1 1 ++ (body (0 ∷ 5 ∷ 1 ∷ 0 ∷ 3 ∷ []) ++ strip (0 ∷ 1 ∷ []))))) (refused 6 40)
    ∷ is (header 7 1 ++ (summary 2 2 5 1 ++ field_bytes 5 (0 ∷ 5 ∷ []))) (refused 6 20)
    ∷ is (single 7 ++ (header 9 1 ++ (summary 2 2 5 1 ++ strip (0 ∷ 5 ∷ [])))) (done tt)
    -- a strip read as the other layout, and the other way round; a byte more among the gap numbers, a byte less; a zero score; the gap number cut short by the first score
    ∷ is (header 7 1 ++ (summary 2 4 5 2 ++ strip (0 ∷ 5 ∷ 1 ∷ 0 ∷ 3 ∷ []))) (refused 8 20)
    ∷ is (header 7 1 ++ (summary 2 4 5 2 ++ body (1 ∷ 0 ∷ 5 ∷ 0 ∷ 3 ∷ []))) (refused 8 20)
    ∷ is (header 7 1 ++ (summary 2 4 5 2 ++ strip (1 ∷ 0 ∷ 0 ∷ 5 ∷ 0 ∷ 3 ∷ []))) (refused 8 20)
    ∷ is (header 7 1 ++ (summary 2 4 5 2 ++ strip (0 ∷ 5 ∷ 0 ∷ 3 ∷ []))) (refused 8 20)
    ∷ is (header 7 1 ++ (summary 2 4 5 2 ++ strip (1 ∷ 0 ∷ 5 ∷ 0 ∷ 0 ∷ []))) (refused 8 20)
    ∷ is (header 7 1 ++ (summary 2 131 5 2 ++ strip (129 ∷ 1 ∷ 5 ∷ 0 ∷ 3 ∷ []))) (refused 8 20)
    ∷ []

abbrev answers : List Case → List (Outcome (Unit {0}))
answers cs = map (λ (c : Case). c.answer) cs

abbrev checks : List Case → List (Outcome (Unit {0}))
checks cs = map (λ (c : Case). judged (checked c.bytes)) cs

pub corner_cases : checks corners ≡ answers corners
unfolding checked walk lists list head_term head_count right_head one_sum sums one_body bodies_of bodies blocks_of is_strip edge is_sum sum_of right_sum whole field_len field_value field_bytes num be gapped posting posts body_posts right_body more gap score
corner_cases = refl

-- ---- the paper's shelf cut short at every byte: the tag of the field that is cut, the shelf's length where a field is due and no byte is left

abbrev up_to : ℕ → List ℕ
up_to zero = []
up_to (suc n) = up_to n ++ (n ∷ [])

abbrev times : ℕ → Outcome (Unit {0}) → List (Outcome (Unit {0}))
times zero r = []
times (suc n) r = r ∷ times n r

pub cut_short : map (λ (k : ℕ). judged (checked (take k paper_shelf))) (up_to 74)
    ≡ times 1 (done tt) ++ (times 7 (refused 6 0) ++ (times 12 (refused 6 8) ++ (times 12 (refused 6 20) ++ (times 8 (refused 6 32) ++ (times 5 (refused 6 40)
    ++ (times 1 (done tt) ++ (times 7 (refused 6 45) ++ (times 12 (refused 6 53) ++ (times 8 (refused 6 65) ++ times 1 (done tt))))))))))
unfolding checked walk lists list head_term head_count right_head one_sum sums one_body bodies_of bodies blocks_of is_strip edge is_sum sum_of right_sum whole field_len field_value field_bytes num be gapped posting posts body_posts right_body more gap score
cut_short = refl
