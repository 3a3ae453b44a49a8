-- What is stored into one part of a run stands there, and leaves the other parts as they were. Assumes nothing.
use Prim.Native.Nat.{ℕ, suc, ◌+◌, ◌≤◌, ◌<◌}
use mathlib.Core.Path.{◌≡◌, refl, ap, ◌∙◌}
use mathlib.Core.Logic.{◌⊎◌, inl, inr}
use mathlib.Core.List.{List, [], ◌∷◌, ◌++◌}
use native.Mathlib.Omega.{arith}
use lib.ListN.{length, take, drop, set, length-append}
use lib.Seq.{sets, sets-eq, slice, length-take-le, take_at, drop_at, take-set-le, take-set-lt, drop-set-lt}
use lib.Dec.{ltb}
use borrow.Author.Tests.{ltb-true, ltb-false}
use Rattle.model.proofs.Lists.{split}

-- what was stored stands where it was stored
pub slice-stored : (vs l : List ℕ) (a : ℕ) → a + length vs ≤ length l → slice a (a + length vs) (sets l a vs) ≡ vs
slice-stored vs l a h =
    let rest = drop (a + length vs) l in
    let n : length (take a l) ≡ a = length-take-le a l (omega arith) in
    let whole : sets l a vs ≡ (take a l ++ vs) ++ rest = sets-eq vs l a h in
    ap {B = List ℕ} (λ x. drop a (take (a + length vs) x)) whole
    ∙ ap {B = List ℕ} (λ x. drop a x) (take_at (take a l ++ vs) rest (a + length vs) (omega (arith, length-append (take a l) vs)))
    ∙ drop_at (take a l) vs a n

-- a part below it is as it was
pub slice-under : (vs l : List ℕ) (a f t : ℕ) → t ≤ a → slice f t (sets l a vs) ≡ slice f t l
slice-under [] l a f t h = refl
slice-under (v ∷ vs) l a f t h = slice-under vs (set l a v) (suc a) f t (omega arith) ∙ ap {B = List ℕ} (λ x. drop f x) (take-set-le t l a v h)

-- and so is one past it
slice_set : (l : List ℕ) (i f t v : ℕ) → i < f → slice f t (set l i v) ≡ slice f t l
slice_set l i f t v h =
    split (ltb i t)
    (λ e. ap {B = List ℕ} (λ x. drop f x) (take-set-lt t l i v (ltb-true _ _ e)) ∙ drop-set-lt f (take t l) i v h)
    (λ e. ap {B = List ℕ} (λ x. drop f x) (take-set-le t l i v (ltb-false _ _ e)))

pub slice_over : (vs l : List ℕ) (a f t : ℕ) → a + length vs ≤ f → slice f t (sets l a vs) ≡ slice f t l
slice_over [] l a f t h = refl
slice_over (v ∷ vs) l a f t h = slice_over vs (set l a v) (suc a) f t (omega arith) ∙ slice_set l a f t v (omega arith)

pub slice_apart : (vs l : List ℕ) (a f t : ℕ) → (t ≤ a) ⊎ (a + length vs ≤ f) → slice f t (sets l a vs) ≡ slice f t l
slice_apart vs l a f t (inl h) = slice-under vs l a f t h
slice_apart vs l a f t (inr h) = slice_over vs l a f t h
