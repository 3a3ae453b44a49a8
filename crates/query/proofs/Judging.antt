-- Refusals 2 to 5, by the tests that the code makes. Assumes nothing.
use Prim.Native.Nat.{ℕ, ◌+◌, ◌-◌, ◌≤◌, ◌<◌}
use native.Mathlib.Omega.{arith}
use mathlib.Core.Path.{◌≡◌, refl, ◌∙◌}
use mathlib.Core.List.{List, []}
use mathlib.Core.Bool.{Bool, true, false, ◌&&◌}
use borrow.Author.Tests.{leb-true, ltb-true, le-leb, lt-leb, eq-eqb, ne_eqb, lt-ltb, le-ltb}
use lib.Dec.{leb, ltb}
use lib.ListN.{length, drop}
use Rattle.model.specs.Limits.{max_k, max_terms}
use Rattle.model.specs.Outcome.{Outcome, refused, done, and_then}
use Rattle.model.specs.Runs.{has}
use Rattle.model.proofs.Lists.{and-true}
use Rattle.wire.specs.Number.{num}
use Rattle.query.specs.Query.{Question, term_at, asked_in, terms_in, question, field_count, all_right, unless, weighted, unrepeated, judge, asked}
use Rattle.query.specs.Answers.{earlier}
use Rattle.query.proofs.Parts.{terms-length, terms-none, terms-more, earlier_more}

-- ---- from the term field with index i on, of n

abbrev pub weighted_from : (n i : ℕ) → List ℕ → Outcome (Unit {0})
weighted_from n i s = weighted i (terms_in (n - i) (drop (term_at i) s))

abbrev pub unrepeated_from : (n i : ℕ) → List ℕ → Outcome (Unit {0})
unrepeated_from n i s = unrepeated (earlier i s) i (terms_in (n - i) (drop (term_at i) s))

module _ (n i : ℕ) (s : List ℕ) where
  pub weights-end : n ≤ i → weighted_from n i s ≡ done tt
  weights-end h = rw (terms-none n i s h)

  pub repeats_end : n ≤ i → unrepeated_from n i s ≡ done tt
  repeats_end h = rw (terms-none n i s h)

  module _ (h : i < n) where
    pub weights-zero : (asked_in (drop (term_at i) s)).weight ≡ 0 → weighted_from n i s ≡ refused 4 (term_at i)
    weights-zero e = rw (terms-more n i s h, eq-eqb (asked_in (drop (term_at i) s)).weight 0 e)

    pub weights-next : ((asked_in (drop (term_at i) s)).weight ≡ 0 → ⊥) → weighted_from n i s ≡ weighted_from n (i + 1) s
    weights-next e = rw (terms-more n i s h, ne_eqb (asked_in (drop (term_at i) s)).weight 0 e)

    pub repeats_found : has (asked_in (drop (term_at i) s)).term (earlier i s) ≡ true → unrepeated_from n i s ≡ refused 5 (term_at i)
    repeats_found e = rw (terms-more n i s h, e)

    pub repeats_next : has (asked_in (drop (term_at i) s)).term (earlier i s) ≡ false → unrepeated_from n i s ≡ unrepeated_from n (i + 1) s
    repeats_next e = rw (terms-more n i s h, e, earlier_more i s)

-- ---- one after the other

module _ (size k n : ℕ) (s : List ℕ) where
  pub judge_no_k : k ≡ 0 → judge size (question k n s) ≡ refused 2 0
  unfolding judge
  judge_no_k e = rw (le-ltb 0 k (omega arith))

  module _ (some : k ≡ 0 → ⊥) where
    pub judge_large_k : max_k < k → judge size (question k n s) ≡ refused 2 0
    unfolding judge
    judge_large_k h = rw (lt-ltb 0 k (omega arith), lt-leb k max_k h)

    module _ (small : k ≤ max_k) where
      pub judge_no_term : n ≡ 0 → judge size (question k n s) ≡ refused 3 size
      unfolding judge
      judge_no_term e = rw (lt-ltb 0 k (omega arith), le-leb k max_k small, terms-length n (drop 4 s), le-ltb 0 n (omega arith))

      module _ (more : n ≡ 0 → ⊥) where
        pub judge_many_terms : max_terms < n → judge size (question k n s) ≡ refused 3 (term_at max_terms)
        unfolding judge
        judge_many_terms h =
            rw (lt-ltb 0 k (omega arith), le-leb k max_k small, terms-length n (drop 4 s), lt-ltb 0 n (omega arith), lt-leb n max_terms h)

        pub judge-rest : n ≤ max_terms → judge size (question k n s) ≡ and_then (weighted 0 (terms_in n (drop 4 s))) (λ ok. unrepeated [] 0 (terms_in n (drop 4 s)))
        unfolding judge
        judge-rest h =
            rw (lt-ltb 0 k (omega arith), le-leb k max_k small, terms-length n (drop 4 s), lt-ltb 0 n (omega arith), le-leb n max_terms h)

        -- by what was found of the weights
        module _ (few : n ≤ max_terms) where
          pub judge-weight : (number at : ℕ) → weighted 0 (terms_in n (drop 4 s)) ≡ refused number at → judge size (question k n s) ≡ refused number at
          judge-weight number at f = judge-rest few ∙ rw f

          pub judge_repeat : weighted 0 (terms_in n (drop 4 s)) ≡ done tt → judge size (question k n s) ≡ unrepeated [] 0 (terms_in n (drop 4 s))
          judge_repeat f = judge-rest few ∙ rw f

-- ---- a question in which no fault was found

pub then_done : {B : Type 0} (r : Outcome (Unit {0})) (f : Unit {0} → Outcome B) (y : B) → and_then r f ≡ done y → (r ≡ done tt) × (f tt ≡ done y)
then_done (done u) f y e = (refl, e)
then_done (refused number at) f y e = let z : ◌≡◌ {A = ℕ} 0 1 = cc in absurd (omega arith)

unless-done : (t : Bool) (number at : ℕ) → unless t number at ≡ done tt → t ≡ true
unless-done true number at e = refl
unless-done false number at e = let z : ◌≡◌ {A = ℕ} 0 1 = cc in absurd (omega arith)

pub record Faultless (x : Question) : Type 0 where
  pub k_low : 0 < x.k
  pub k_high : x.k ≤ max_k
  pub some : 0 < length x.terms
  pub few : length x.terms ≤ max_terms
  pub weighed : weighted 0 x.terms ≡ done tt
  pub once : unrepeated [] 0 x.terms ≡ done tt

pub faultless : (size : ℕ) (x : Question) → judge size x ≡ done tt → Faultless x
unfolding judge
faultless size x e =
    let a = then_done (unless (ltb 0 x.k && leb x.k max_k) 2 0) _ tt e in
    let b = then_done (unless (ltb 0 (length x.terms)) 3 size) _ tt a.1 in
    let c = then_done (unless (leb (length x.terms) max_terms) 3 (term_at max_terms)) _ tt b.1 in
    let d = then_done (weighted 0 x.terms) _ tt c.1 in
    let k = and-true (ltb 0 x.k) (leb x.k max_k) (unless-done _ 2 0 a.0) in
    record {
      k_low = ltb-true 0 x.k k.0;
      k_high = leb-true x.k max_k k.1;
      some = ltb-true 0 (length x.terms) (unless-done _ 3 size b.0);
      few = leb-true (length x.terms) max_terms (unless-done _ 3 (term_at max_terms) c.0);
      weighed = d.0;
      once = d.1;
    }

-- ---- from what was found of the fields and of the terms to the answer

module _ (s : List ℕ) where
  pub asked-wrong : (number at : ℕ) → all_right (field_count s) ≡ refused number at → asked s ≡ refused number at
  unfolding asked
  asked-wrong number at e = rw e

  module _ (n k : ℕ) (e : all_right (field_count s) ≡ done n) (first : k ≡ num 1 (drop 3 s)) where
    pub asked_bad : (number at : ℕ) → judge (length s) (question k n s) ≡ refused number at → asked s ≡ refused number at
    unfolding asked
    asked_bad number at f = rw (e, ← first, f)

    pub asked-good : judge (length s) (question k n s) ≡ done tt → asked s ≡ done (question k n s)
    unfolding asked
    asked-good f = rw (e, ← first, f)

-- there is room for the terms of an accepted query
pub good-few : (size k n : ℕ) (s : List ℕ) → judge size (question k n s) ≡ done tt → n ≤ max_terms
good-few size k n s e = omega (arith, (faultless size (question k n s) e).few, terms-length n (drop 4 s))
