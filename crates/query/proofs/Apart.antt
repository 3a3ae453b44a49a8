-- Weights above 0 and terms of which none comes twice: what the searches for a fault find, and back. Assumes nothing.
use Prim.Native.Nat.{ℕ, ◌+◌, ◌≤◌}
use native.Mathlib.Omega.{arith}
use mathlib.Core.Path.{◌≡◌, refl, sym, ◌∙◌}
use mathlib.Core.List.{List, [], ◌∷◌}
use mathlib.Core.Bool.{Bool, true, false, false≢true, ◌||◌}
use borrow.Author.Tests.{eqb-false, ne_eqb, eq-eqb}
use lib.Dec.{eqb}
use Rattle.model.specs.Outcome.{Outcome, refused, done}
use Rattle.model.specs.Runs.{All, has}
use Rattle.model.proofs.Lists.{split, All_map, All_both}
use Rattle.query.specs.Query.{Asked, terms_of, term_at, weighted, unrepeated}
use Rattle.query.specs.Range.{Once}

-- a refusal is not accepted
refusal {ℓ} : {C : Type ℓ} (number at : ℕ) → ◌≡◌ {A = Outcome (Unit {0})} (refused number at) (done tt) → C
refusal number at e = let z : ◌≡◌ {A = ℕ} 0 1 = cc in absurd (omega arith)

-- ---- weights

pub weights-above : (i : ℕ) (xs : List Asked) → weighted i xs ≡ done tt → All (λ (a : Asked). 1 ≤ a.weight) xs
weights-above i [] e = tt
weights-above i (a ∷ rest) e =
    split (eqb a.weight 0)
    (λ w. refusal 4 (term_at i) (rw w at e))
    (λ w. (omega (arith, eqb-false a.weight 0 w), weights-above (i + 1) rest (rw w at e)))

pub above-weights : (i : ℕ) (xs : List Asked) → All (λ (a : Asked). 1 ≤ a.weight) xs → weighted i xs ≡ done tt
above-weights i [] all = refl
above-weights i (a ∷ rest) all = rw (ne_eqb a.weight 0 (omega (arith, all.0))) (above-weights (i + 1) rest all.1)

-- ---- terms

or_both : (a b : Bool) → (a || b) ≡ false → (a ≡ false) × (b ≡ false)
or_both true b e = absurd (false≢true (sym e))
or_both false b e = (refl, e)

neither : (a b : Bool) → a ≡ false → b ≡ false → (a || b) ≡ false
neither a b e f = rw (e, f)

eqb-turn : (a b : ℕ) → eqb a b ≡ false → eqb b a ≡ false
eqb-turn a b e = ne_eqb b a (λ f. absurd (false≢true (sym e ∙ eq-eqb a b (sym f))))

abbrev Unlike : ℕ → List Asked → Type 0
Unlike t xs = All (λ (a : Asked). eqb a.term t ≡ false) xs

abbrev Clear : List ℕ → List Asked → Type 0
Clear before xs = All (λ (a : Asked). has a.term before ≡ false) xs

unlike_has : (t : ℕ) (xs : List Asked) → Unlike t xs → has t (terms_of xs) ≡ false
unlike_has t [] all = refl
unlike_has t (a ∷ rest) all = rw (eqb-turn a.term t all.0) (unlike_has t rest all.1)

has_unlike : (t : ℕ) (xs : List Asked) → has t (terms_of xs) ≡ false → Unlike t xs
has_unlike t [] e = tt
has_unlike t (a ∷ rest) e =
    let b = or_both (eqb t a.term) _ e in
    (eqb-turn t a.term b.0, has_unlike t rest b.1)

pub unrepeated-once : (before : List ℕ) (i : ℕ) (xs : List Asked) → unrepeated before i xs ≡ done tt → Clear before xs × Once (terms_of xs)
unrepeated-once before i [] e = (tt, tt)
unrepeated-once before i (a ∷ rest) e =
    split (has a.term before)
    (λ w. refusal 5 (term_at i) (rw w at e))
    (λ w.
    let r = unrepeated-once (a.term ∷ before) (i + 1) rest (rw w at e) in (
      (w, All_map rest (λ b h. (or_both (eqb b.term a.term) _ h).1) r.0),
      (unlike_has a.term rest (All_map rest (λ b h. (or_both (eqb b.term a.term) _ h).0) r.0), r.1),
    ))

pub once-unrepeated : (before : List ℕ) (i : ℕ) (xs : List Asked) → Clear before xs → Once (terms_of xs) → unrepeated before i xs ≡ done tt
once-unrepeated before i [] clear once = refl
once-unrepeated before i (a ∷ rest) clear once =
    rw clear.0
    (once-unrepeated (a.term ∷ before) (i + 1) rest (All_both rest (λ b u v. neither _ _ u v) (has_unlike a.term rest once.0) clear.1) once.1)

pub clear_none : (xs : List Asked) → Clear [] xs
clear_none [] = tt
clear_none (a ∷ rest) = (refl, clear_none rest)
