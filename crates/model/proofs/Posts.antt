-- Postings out of two runs, one by one and in parts. Assumes nothing.
use Prim.Native.Nat.{ℕ, suc, ◌+◌, ◌-◌, ◌≤◌, ◌<◌, max}
use native.Mathlib.Omega.{arith}
use native.Mathlib.Numerals.{add-one}
use mathlib.Core.Path.{◌≡◌, refl, sym, ap, ◌∙◌}
use mathlib.Core.List.{List, [], ◌∷◌, ◌++◌}
use lib.ListN.{length, get_or, drop, drop_of_length-le}
use lib.Seq.{drop-cons}
use Rattle.model.specs.Post.{Post, post, postings, Rising, last_doc, top_score, max_from, Even}

-- what is left of two runs from index i
abbrev pub from : ℕ → List ℕ → List ℕ → List Post
from i ds ss = postings (drop i ds) (drop i ss)

-- one posting more, in the code's `i + 1`
pub from_cons : (i : ℕ) (ds ss : List ℕ) → length ds ≡ length ss → i < length ds → from i ds ss ≡ post (get_or ds i 0) (get_or ss i 0) ∷ from (i + 1) ds ss
from_cons i ds ss e h =
    let h2 : i < length ss = omega arith in
    rw (add-one, drop-cons ds i 0 h, drop-cons ss i 0 h2)

pub from_end : (i : ℕ) (ds ss : List ℕ) → length ds ≤ i → from i ds ss ≡ []
from_end i ds ss h = rw (drop_of_length-le ds h)

pub count_of : (ds ss : List ℕ) → length ds ≡ length ss → length (postings ds ss) ≡ length ds
count_of [] ss e = refl
count_of (d ∷ ds) [] e = absurd (omega arith)
count_of (d ∷ ds) (s ∷ ss) e = ap suc (count_of ds ss (omega arith))

pub top_of : (m : ℕ) (ds ss : List ℕ) → length ds ≡ length ss → top_score m (postings ds ss) ≡ max_from m ss
top_of m [] [] e = refl
top_of m [] (s ∷ ss) e = absurd (omega arith)
top_of m (d ∷ ds) [] e = absurd (omega arith)
top_of m (d ∷ ds) (s ∷ ss) e = top_of (max m s) ds ss (omega arith)

pub last_of : (p : ℕ) (ds ss : List ℕ) → length ds ≡ length ss → 0 < length ds → last_doc p (postings ds ss) ≡ get_or ds (length ds - 1) 0
last_of p [] ss e h = absurd (omega arith)
last_of p (d ∷ ds) [] e h = absurd (omega arith)
last_of p (d ∷ []) (s ∷ ss) e h = refl
last_of p (d ∷ b ∷ ds) (s ∷ ss) e h =
    let e1 : suc (length ds) - 1 ≡ length ds = omega arith in
    let e2 : suc (suc (length ds)) - 1 ≡ suc (length ds) = omega arith in
    last_of d (b ∷ ds) ss (omega arith) (omega arith)
    ∙ ap (λ (n : ℕ). get_or (b ∷ ds) n 0) e1
    ∙ sym (ap (λ (n : ℕ). get_or (d ∷ b ∷ ds) n 0) e2)

pub rising-last : (p : ℕ) (xs : List Post) → Rising p xs → p + length xs ≤ last_doc p xs
rising-last p [] h = omega arith
rising-last p (x ∷ xs) h = omega (arith, rising-last x.doc xs h.1, h.0)

pub last-append : (p : ℕ) (xs ys : List Post) → last_doc p (xs ++ ys) ≡ last_doc (last_doc p xs) ys
last-append p [] ys = refl
last-append p (x ∷ xs) ys = last-append x.doc xs ys

pub rising-append : (p : ℕ) (xs ys : List Post) → Rising p (xs ++ ys) → Rising p xs × Rising (last_doc p xs) ys
rising-append p [] ys h = (tt, h)
rising-append p (x ∷ xs) ys h =
    let r = rising-append x.doc xs ys h.1 in
    ((h.0, r.0), r.1)

-- all but the first
pub even_tail : (p : ℕ) (ds ss : List ℕ) → 0 < length ds → Even p ds ss → Even (get_or ds 0 0) (drop 1 ds) (drop 1 ss)
even_tail p [] ss h l = absurd (omega arith)
even_tail p (d ∷ ds) [] h l = absurd (omega (arith, l.same))
even_tail p (d ∷ ds) (s ∷ ss) h l = record { same = omega (arith, l.same); rise = l.rise.1 }

pub rising-join : (p : ℕ) (xs ys : List Post) → Rising p xs → Rising (last_doc p xs) ys → Rising p (xs ++ ys)
rising-join p [] ys h k = k
rising-join p (x ∷ xs) ys h k = (h.0, rising-join x.doc xs ys h.1 k)

-- where there is a posting, the start says nothing
pub last_any : (p q : ℕ) (xs : List Post) → 0 < length xs → last_doc p xs ≡ last_doc q xs
last_any p q [] h = absurd (omega arith)
last_any p q (x ∷ xs) h = refl
