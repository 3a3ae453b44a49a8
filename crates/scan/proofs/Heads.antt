-- Laws of heads, for the loops over them. Assumes nothing.
use Prim.Native.Nat.{ℕ, zero, suc, ◌+◌, ◌*◌, ◌≤◌, ◌<◌, min}
use mathlib.Core.Path.{◌≡◌, refl, sym, ap, ◌∙◌}
use mathlib.Core.Bool.{cond}
use mathlib.Core.List.{List, [], ◌∷◌, ◌++◌, map, map-append, append-nil}
use native.Mathlib.Omega.{arith}
use native.Mathlib.Nat.{min-le_right, min-eq_left, min-eq_right, mul-le-mul}
use native.Mathlib.Numerals.{add-one}
use lib.ListN.{length, take, drop, get_or, set, take-append-drop, drop_of_length-le}
use lib.Seq.{drop-cons, take_all}
use lib.Dec.{eqb}
use borrow.Author.Tests.{eq-eqb, ne_eqb}
use Rattle.model.specs.Runs.{All}
use Rattle.model.proofs.Lists.{map-turn, map_stay, map-here}
use Rattle.scan.specs.declared.head.Head.{Head}
use Rattle.rank.specs.Run.{none}
use Rattle.scan.specs.Heads.{blank, OwnPart, OwnParts, least, sum_at, next_head, step_if}
use Rattle.scan.specs.Run.{Idle}

-- The smallest docid
pub least-top : (hs : List Head) → least hs ≤ none
least-top [] = omega arith
least-top (h ∷ hs) = omega (arith, min-le_right h.doc (least hs), least-top hs)

-- Heads at their lists' ends
pub idle-each : (hs : List Head) (n : ℕ) → ((k : ℕ) → n ≤ k → k < length hs → none ≤ (get_or hs k blank).doc) → Idle n hs
idle-each [] zero f = tt
idle-each [] (suc n) f = tt
idle-each (h ∷ hs) zero f = (f 0 (omega arith) (omega arith), idle-each hs zero (λ k l m. f (suc k) (omega arith) (omega arith)))
idle-each (h ∷ hs) (suc n) f = idle-each hs n (λ k l m. f (suc k) (omega arith) (omega arith))

least-idle : (hs : List Head) → All (λ h. none ≤ h.doc) hs → least hs ≡ none
least-idle [] a = refl
least-idle (h ∷ hs) a = rw (least-idle hs a.1) (min-eq_right a.0)

sum-idle : (d : ℕ) (hs : List Head) → d < none → All (λ h. none ≤ h.doc) hs → sum_at d hs ≡ 0
sum-idle d [] l a = refl
sum-idle d (h ∷ hs) l a = rw (ne_eqb h.doc d (λ e. omega (arith, a.0)), sum-idle d hs l a.1)

step-idle : (ds ss : List ℕ) (d : ℕ) (hs : List Head) → d < none → All (λ h. none ≤ h.doc) hs → map (step_if ds ss d) hs ≡ hs
step-idle ds ss d [] l a = refl
step-idle ds ss d (h ∷ hs) l a = rw (ne_eqb h.doc d (λ e. omega (arith, a.0)), step-idle ds ss d hs l a.1)

least-front : (hs : List Head) (n : ℕ) → Idle n hs → least (take n hs) ≡ least hs
least-front hs zero a = sym (least-idle hs a)
least-front [] (suc n) a = refl
least-front (h ∷ hs) (suc n) a = ap (min h.doc) (least-front hs n a)

sum_front : (d : ℕ) (hs : List Head) (n : ℕ) → d < none → Idle n hs → sum_at d (take n hs) ≡ sum_at d hs
sum_front d hs zero l a = sym (sum-idle d hs l a)
sum_front d [] (suc n) l a = refl
sum_front d (h ∷ hs) (suc n) l a = ap (λ t. cond (eqb h.doc d) (h.weight * h.score) 0 + t) (sum_front d hs n l a)

pub step_past : (ds ss : List ℕ) (d : ℕ) (hs : List Head) (i : ℕ) → d < none → Idle i hs → map (step_if ds ss d) (take i hs) ++ drop i hs ≡ map (step_if ds ss d) hs
step_past ds ss d hs i l a =
    ap {B = List Head} (λ t. map (step_if ds ss d) (take i hs) ++ t) (sym (step-idle ds ss d (drop i hs) l a))
    ∙ sym (map-append (step_if ds ss d) (take i hs) (drop i hs))
    ∙ ap (map (step_if ds ss d)) (take-append-drop i hs)

-- After the passes over the first n heads
module _ (hs : List Head) (n i : ℕ) (a : Idle n hs) (l : length (take n hs) ≤ i) where
  pub least-done : (m : ℕ) → m ≤ none → least (take n hs) ≡ min m (least (drop i (take n hs))) → m ≡ least hs
  least-done m t e = sym (rw (drop_of_length-le (take n hs) l, min-eq_left t) at e) ∙ least-front hs n a

  pub sum-done : (d s : ℕ) → d < none → sum_at d (take n hs) ≡ s + sum_at d (drop i (take n hs)) → s ≡ sum_at d hs
  sum-done d s b e =
      let f : sum_at d (take n hs) ≡ s + 0 = rw (drop_of_length-le (take n hs) l) at e in
      omega (arith, sum_front d hs n b a)

  pub step-done : (ds ss : List ℕ) (d : ℕ) (front : List Head) → d < none → front ≡ map (step_if ds ss d) (take i (take n hs)) ++ drop i (take n hs) → front ++ drop n hs ≡ map (step_if ds ss d) hs
  step-done ds ss d front b e =
      rw (e, take_all i (take n hs) l, drop_of_length-le (take n hs) l, append-nil (map (step_if ds ss d) (take n hs))) (step_past ds ss d hs n b a)

pub idle-step : (ds ss : List ℕ) (d : ℕ) (hs : List Head) (i : ℕ) → d < none → Idle i hs → Idle i (map (step_if ds ss d) hs)
idle-step ds ss d hs zero l a = rw (step-idle ds ss d hs l a) a
idle-step ds ss d [] (suc i) l a = tt
idle-step ds ss d (h ∷ hs) (suc i) l a = idle-step ds ss d hs i l a

-- The sum
pub product : (w s : ℕ) → w < 256 → s < 65536 → w * s ≤ 16711425
product w s a b = mul-le-mul {n₂ = 255} {m₂ = 65535} (omega arith) (omega arith)

pub sum-turn : (d : ℕ) (hs : List Head) (i m : ℕ) → i < length hs → (get_or hs i blank).doc ≡ d → m + sum_at d (drop i hs) ≡ (m + (get_or hs i blank).weight * (get_or hs i blank).score) + sum_at d (drop (i + 1) hs)
sum-turn d hs i m l e = rw (add-one i, drop-cons hs i blank l, eq-eqb (get_or hs i blank).doc d e) (omega arith)

pub sum-pass : (d : ℕ) (hs : List Head) (i m : ℕ) → i < length hs → ((get_or hs i blank).doc ≡ d → ⊥) → m + sum_at d (drop i hs) ≡ m + sum_at d (drop (i + 1) hs)
sum-pass d hs i m l e = rw (add-one i, drop-cons hs i blank l, ne_eqb (get_or hs i blank).doc d e) (omega arith)

pub All_at : (P : Head → Type 0) (hs : List Head) (i : ℕ) → i < length hs → All P hs → P (get_or hs i blank)
All_at P [] i l a = absurd (omega arith)
All_at P (h ∷ hs) zero l a = a.0
All_at P (h ∷ hs) (suc i) l a = All_at P hs i (omega arith) a.1

-- One turn of the second pass
module _ (ds ss : List ℕ) (d : ℕ) (heads hs : List Head) (i : ℕ) (l : i < length heads) (inv : hs ≡ map (step_if ds ss d) (take i heads) ++ drop i heads) where
  here : get_or hs i blank ≡ get_or heads i blank
  here = rw inv (map-here blank (step_if ds ss d) heads i l)

  pub step-turn : (get_or hs i blank).doc ≡ d → set hs i (next_head ds ss (get_or hs i blank)) ≡ map (step_if ds ss d) (take (i + 1) heads) ++ drop (i + 1) heads
  step-turn t =
      let f : step_if ds ss d (get_or heads i blank) ≡ next_head ds ss (get_or heads i blank) = rw (eq-eqb (get_or heads i blank).doc d (rw here at t)) in
      rw (here, ← f, inv) (map-turn blank (step_if ds ss d) heads i l)

  pub sum-here : (s t : ℕ) → sum_at d heads ≡ s + sum_at d (drop i heads) → (get_or hs i blank).doc ≡ d → t ≡ s + (get_or hs i blank).weight * (get_or hs i blank).score
      → sum_at d heads ≡ t + sum_at d (drop (i + 1) heads)
  sum-here s t q e p =
      let u : t ≡ s + (get_or heads i blank).weight * (get_or heads i blank).score = rw here at p in
      q ∙ sum-turn d heads i s l (rw here at e) ∙ ap {B = ℕ} (λ v. v + sum_at d (drop (i + 1) heads)) (sym u)

  pub sum_stay : (s : ℕ) → sum_at d heads ≡ s + sum_at d (drop i heads) → ((get_or hs i blank).doc ≡ d → ⊥) → sum_at d heads ≡ s + sum_at d (drop (i + 1) heads)
  sum_stay s q e = q ∙ sum-pass d heads i s l (rw here at e)

  pub step_stay : ((get_or hs i blank).doc ≡ d → ⊥) → hs ≡ map (step_if ds ss d) (take (i + 1) heads) ++ drop (i + 1) heads
  step_stay t = inv ∙ map_stay blank (step_if ds ss d) heads i l (rw (ne_eqb (get_or heads i blank).doc d (rw here at t)))

pub own-set : (t : ℕ) (hs : List Head) (i : ℕ) (h : Head) → ((u : ℕ) → OwnPart u (get_or hs i blank) → OwnPart u h) → OwnParts t hs → OwnParts t (set hs i h)
own-set t [] i h f o = tt
own-set t (x ∷ hs) zero h f o = (f t o.0, o.1)
own-set t (x ∷ hs) (suc i) h f o = (o.0, own-set (suc t) hs i h f o.1)

pub All_set : (P : Head → Type 0) (hs : List Head) (i : ℕ) (h : Head) → All P hs → P h → All P (set hs i h)
All_set P [] i h a p = tt
All_set P (x ∷ hs) zero h a p = (p, a.1)
All_set P (x ∷ hs) (suc i) h a p = (a.0, All_set P hs i h a.1 p)
