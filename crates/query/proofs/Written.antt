-- A question in range, written as a query, is asked by it. Assumes nothing.
use Prim.Native.Nat.{ℕ, ◌+◌, ◌-◌, ◌≤◌, ◌<◌}
use native.Mathlib.Omega.{arith}
use mathlib.Core.Path.{◌≡◌, refl, sym, ap, ◌∙◌}
use mathlib.Core.List.{List, [], ◌∷◌, ◌++◌, append_assoc}
use mathlib.Core.Bool.{true}
use borrow.Author.Tests.{eq-eqb, le-leb, lt-ltb}
use lib.ListN.{length, drop, length-append}
use lib.Seq.{drop-drop, drop_at}
use Rattle.model.specs.Limits.{max_k, max_terms}
use Rattle.model.specs.Outcome.{done}
use Rattle.model.specs.Runs.{All}
use Rattle.wire.specs.Number.{num, be}
use Rattle.wire.specs.Field.{field_bytes}
use Rattle.wire.proofs.Numbers.{num-be, be-length}
use Rattle.wire.proofs.Fields.{field-size, head-drop, len_round, whole_round, past_round}
use Rattle.query.specs.Query.{Asked, Question, tag_k, tag_term, is_field, asked_in, terms_in, question, term_count, field_count, judge, asked, term_bytes, question_bytes}
use Rattle.model.proofs.Lists.{All_map}
use Rattle.query.specs.Range.{Fits, InRange}
use Rattle.std.specs.Prelude.{Ok}
use Rattle.query.proofs.Parts.{count_none, count-some}
use Rattle.query.proofs.Apart.{above-weights, once-unrepeated, clear_none}

-- ---- one field

-- a field of a short value, with anything behind it
module _ (tag : ℕ) (v r : List ℕ) (n : ℕ) (size : length v ≡ n) (short : n < 65536) where
  brief : length v < 65536
  brief = omega arith

  is-field_round : is_field tag n (field_bytes tag v ++ r) ≡ true
  unfolding is_field
  is-field_round = rw (whole_round tag v r brief, len_round tag v r brief, eq-eqb (length v) n size)

  past-field : drop (3 + n) (field_bytes tag v ++ r) ≡ r
  past-field = rw (← size) (past_round tag v r brief)

-- "term (4), weight (1)"
abbrev term_value : Asked → List ℕ
term_value a = be 4 a.term ++ be 1 a.weight

value-size : (a : Asked) → length (term_value a) ≡ 5
value-size a = omega (arith, length-append (be 4 a.term) (be 1 a.weight), be-length 4 a.term, be-length 1 a.weight)

asked_round : (a : Asked) (r : List ℕ) → Fits a → asked_in (field_bytes tag_term (term_value a) ++ r) ≡ a
asked_round a r fits =
    let s = field_bytes tag_term (term_value a) ++ r in
    let past : drop 3 s ≡ be 4 a.term ++ (be 1 a.weight ++ r) = head-drop tag_term (term_value a) r ∙ append_assoc (be 4 a.term) (be 1 a.weight) r in
    let four : drop 7 s ≡ be 1 a.weight ++ r = sym (drop-drop 4 3 s) ∙ ap {B = List ℕ} (λ l. drop 4 l) past ∙ drop_at (be 4 a.term) (be 1 a.weight ++ r) 4 (be-length 4 a.term) in
    rw (past, four, num-be 4 a.term (be 1 a.weight ++ r) fits.0, num-be 1 a.weight r (omega (arith, fits.2)))

-- ---- all term fields

module _ (a : Asked) (rest : List Asked) where
  term_is : is_field tag_term 5 (term_bytes (a ∷ rest)) ≡ true
  unfolding term_bytes
  term_is = is-field_round tag_term (term_value a) (term_bytes rest) 5 (value-size a) (omega arith)

  term-past : drop 8 (term_bytes (a ∷ rest)) ≡ term_bytes rest
  unfolding term_bytes
  term-past = past-field tag_term (term_value a) (term_bytes rest) 5 (value-size a) (omega arith)

  term-size : length (term_bytes (a ∷ rest)) ≡ 8 + length (term_bytes rest)
  unfolding term_bytes
  term-size = omega (arith, length-append (field_bytes tag_term (term_value a)) (term_bytes rest), field-size tag_term (term_value a), value-size a)

no_terms : length (term_bytes []) ≡ 0
unfolding term_bytes
no_terms = refl

count_round : (fuel n : ℕ) (xs : List Asked) → length (term_bytes xs) ≤ fuel → term_count fuel n (term_bytes xs) ≡ Ok (n + length xs)
count_round fuel n [] h = count_none fuel n (term_bytes []) (omega (arith, no_terms)) ∙ ap Ok (omega arith)
count_round fuel n (a ∷ rest) h =
    let size = term-size a rest in
    count-some fuel n (term_bytes (a ∷ rest)) (omega arith) (omega arith)
    ∙ rw (term_is a rest, term-past a rest) (count_round (fuel - 1) (n + 1) rest (omega arith) ∙ ap Ok (omega arith))

terms_round : (xs : List Asked) → All Fits xs → terms_in (length xs) (term_bytes xs) ≡ xs
unfolding terms_in term_bytes
terms_round [] fits = refl
terms_round (a ∷ rest) fits =
    rw (asked_round a (term_bytes rest) fits.0, past-field tag_term (term_value a) (term_bytes rest) 5 (value-size a) (omega arith), terms_round rest fits.1)

-- ---- the query

module _ (x : Question) where
  k-is : is_field tag_k 1 (question_bytes x) ≡ true
  unfolding question_bytes
  k-is = is-field_round tag_k (be 1 x.k) (term_bytes x.terms) 1 (be-length 1 x.k) (omega arith)

  k-past : drop 4 (question_bytes x) ≡ term_bytes x.terms
  unfolding question_bytes
  k-past = past-field tag_k (be 1 x.k) (term_bytes x.terms) 1 (be-length 1 x.k) (omega arith)

  k-size : length (question_bytes x) ≡ 4 + length (term_bytes x.terms)
  unfolding question_bytes
  k-size = omega (arith, length-append (field_bytes tag_k (be 1 x.k)) (term_bytes x.terms), field-size tag_k (be 1 x.k), be-length 1 x.k)

  k_round : x.k ≤ max_k → num 1 (drop 3 (question_bytes x)) ≡ x.k
  unfolding question_bytes
  k_round h = rw (head-drop tag_k (be 1 x.k) (term_bytes x.terms)) (num-be 1 x.k (term_bytes x.terms) (omega arith))

  fields_round : field_count (question_bytes x) ≡ Ok (length x.terms)
  unfolding field_count
  fields_round = rw (k-is, k-past) (count_round (length (question_bytes x)) 0 x.terms (omega (arith, k-size)) ∙ ap Ok (omega arith))

  module _ (r : InRange x) where
    clear : (size : ℕ) → judge size x ≡ done tt
    unfolding judge
    clear size =
        rw (
          lt-ltb 0 x.k r.k_low,
          le-leb x.k max_k r.k_high,
          lt-ltb 0 (length x.terms) r.some,
          le-leb (length x.terms) max_terms r.few,
          above-weights 0 x.terms (All_map x.terms (λ a f. f.1) r.each),
          once-unrepeated [] 0 x.terms (clear_none x.terms) r.once,
        )

    says : question (num 1 (drop 3 (question_bytes x))) (length x.terms) (question_bytes x) ≡ x
    says = rw (k_round r.k_high, k-past, terms_round x.terms r.each)

    -- every question in range has a query that asks it
    pub written-is-asked : asked (question_bytes x) ≡ done x
    unfolding asked
    written-is-asked = rw (fields_round, says, clear (length (question_bytes x)))
