-- All lists brought on, one after another: a list's place in the arrays, and one turn of the loop. Assumes nothing.
use Prim.Native.Nat.{ℕ, zero, suc, ◌+◌, ◌≤◌, ◌<◌, min}
use mathlib.Core.Path.{◌≡◌, refl, ap, ◌∙◌}
use mathlib.Core.Bool.{Bool, true, false, cond}
use mathlib.Core.Option.{Option, none, some}
use mathlib.Core.List.{List, [], ◌∷◌}
use native.Mathlib.Omega.{arith}
use native.Mathlib.Numerals.{add-one}
use lib.ListN.{length, drop, get_or, set, length-set, length-map, drop_of_length-le}
use lib.Seq.{drop-cons}
use lib.Dec.{ltb}
use Rattle.model.specs.Limits.{max_terms}
use Rattle.model.specs.Runs.{All}
use Rattle.model.proofs.Lists.{split, get_d_map}
use Rattle.rank.specs.Match.{Term}
use Rattle.rank.specs.Run as run
use Rattle.prune.specs.Prune.{fault_in, earlier}
use Rattle.scan.specs.Heads.{blank, InBuffers, OwnPart, OwnParts, term_of, terms}
use Rattle.scan.specs.declared.head.Head.{Head}
use Rattle.scan.proofs.Heads.{All_at}
use Rattle.exhaustive.specs.Merge.{on_shelf, whole, Behind, Line, Settled, OthersStay, Refilled, wholes, fault_left, Behinds, AllSettled, Lines, FilledUp, nearer, horizon_of}
use Rattle.exhaustive.specs.declared.fill.Left.{Left}

-- what the code reads past an array's end
abbrev pub no_left : Left
no_left = record { blocks = record { sum = 0; body = 0; left = 0 }; top = 0 }

-- ---- the list at a place
own_at : (u i : ℕ) (hs : List Head) → i < length hs → OwnParts u hs → OwnPart (u + i) (get_or hs i blank)
own_at u i [] l o = absurd (omega arith)
own_at u zero (h ∷ hs) l o = let e : u + 0 ≡ u = omega arith in rw e o.0
own_at u (suc i) (h ∷ hs) l o = let e : u + suc i ≡ suc u + i = omega arith in rw e (own_at (suc u) i hs (omega arith) o.1)

behind-at : (s : List ℕ) (z : Term) (i : ℕ) (us : List Term) (ls : List Left) → i < length us → i < length ls → Behinds s us ls → Behind s (get_or us i z) (get_or ls i no_left)
behind-at s z i [] ls a b w = absurd (omega arith)
behind-at s z i (u ∷ us) [] a b w = absurd (omega arith)
behind-at s z zero (u ∷ us) (l ∷ ls) a b w = w.0
behind-at s z (suc i) (u ∷ us) (l ∷ ls) a b w = behind-at s z i us ls (omega arith) (omega arith) w.1

pub line_at : (s ds ss : List ℕ) (hs : List Head) (ls : List Left) (i : ℕ) → i < max_terms → Lines s ds ss hs ls → Line s ds ss i (get_or hs i blank) (get_or ls i no_left)
line_at s ds ss hs ls i l w = record {
  mine = l;
  inside = All_at (InBuffers ds ss) hs i (omega (arith, w.heads)) w.inside;
  own = let e : 0 + i ≡ i = omega arith in rw e at (own_at 0 i hs (omega (arith, w.heads)) w.parts);
  behind = rw (get_d_map (term_of ds ss) blank hs i) at
      (behind-at s (term_of ds ss blank) i (terms ds ss hs) ls (omega (arith, w.heads, length-map hs (term_of ds ss))) (omega (arith, w.lefts)) w.behind);
}

-- ---- the list at a place replaced
module _ (ds ss ds' ss' : List ℕ) (t : ℕ) (stay : OthersStay t ds ss ds' ss') where
  -- lists past it
  terms-past : (u : ℕ) (hs : List Head) → t < u → OwnParts u hs → All (InBuffers ds ss) hs → (terms ds' ss' hs ≡ terms ds ss hs) × All (InBuffers ds' ss') hs
  terms-past u [] l o a = (refl, tt)
  terms-past u (h ∷ hs) l o a =
      let x = stay u h o.0 (λ e. omega arith) in
      let r = terms-past (suc u) hs (omega arith) o.1 a.1 in
      (cc (x.0, r.0), (x.1 a.0, r.1))

  pub terms_put : (u i : ℕ) (hs : List Head) (h : Head) → t ≡ u + i → i < length hs → OwnParts u hs → All (InBuffers ds ss) hs → OwnPart t h → InBuffers ds' ss' h
      → (terms ds' ss' (set hs i h) ≡ set (terms ds ss hs) i (term_of ds' ss' h)) × All (InBuffers ds' ss') (set hs i h) × OwnParts u (set hs i h)
  terms_put u i [] h e l o a p q = absurd (omega arith)
  terms_put u zero (x ∷ hs) h e l o a p q =
      let r = terms-past (suc u) hs (omega arith) o.1 a.1 in
      let v : t ≡ u = omega arith in
      (ap {B = List Term} (λ ts. term_of ds' ss' h ∷ ts) r.0, (q, r.1), (rw v at p, o.1))
  terms_put u (suc i) (x ∷ hs) h e l o a p q =
      let y = stay u x o.0 (λ q. omega arith) in
      let r = terms_put (suc u) i hs h (omega arith) (omega arith) o.1 a.1 p q in
      (cc (y.0, r.0), (y.1 a.0, r.1), (o.0, r.2))

module _ (s : List ℕ) (z : Term) where
  behind_put : (i : ℕ) (us : List Term) (ls : List Left) (u : Term) (l : Left) → Behind s u l → Behinds s us ls → Behinds s (set us i u) (set ls i l)
  behind_put i [] ls u l b w = tt
  behind_put zero (x ∷ us) [] u l b w = tt
  behind_put (suc i) (x ∷ us) [] u l b w = tt
  behind_put zero (x ∷ us) (y ∷ ls) u l b w = (b, w.1)
  behind_put (suc i) (x ∷ us) (y ∷ ls) u l b w = (w.0, behind_put i us ls u l b w.1)

  wholes_put : (i : ℕ) (us : List Term) (ls : List Left) (u : Term) (l : Left) → whole s u l ≡ whole s (get_or us i z) (get_or ls i no_left) → i < length us → i < length ls
      → wholes s (set us i u) (set ls i l) ≡ wholes s us ls
  wholes_put i [] ls u l e a b = refl
  wholes_put i (x ∷ us) [] u l e a b = absurd (omega arith)
  wholes_put zero (x ∷ us) (y ∷ ls) u l e a b = ap {B = List Term} (λ t. t ∷ wholes s us ls) e
  wholes_put (suc i) (x ∷ us) (y ∷ ls) u l e a b = ap {B = List Term} (λ ts. whole s x y ∷ ts) (wholes_put i us ls u l e (omega arith) (omega arith))

  fault_put : (i : ℕ) (ls : List Left) (l : Left) → fault_in (on_shelf s l.blocks) ≡ fault_in (on_shelf s (get_or ls i no_left).blocks) → fault_left s (set ls i l) ≡ fault_left s ls
  fault_put i [] l e = refl
  fault_put zero (y ∷ ls) l e = rw e
  fault_put (suc i) (y ∷ ls) l e = rw (fault_put i ls l e)

  -- the first n lists stand, or have nothing left
  abbrev pub SettledTo : ℕ → List Term → List Left → Type 0
  SettledTo zero us ls = Unit {0}
  SettledTo (suc n) [] ls = Unit {0}
  SettledTo (suc n) (u ∷ us) [] = Unit {0}
  SettledTo (suc n) (u ∷ us) (l ∷ ls) = Settled s u l × SettledTo n us ls

  settled_put : (i : ℕ) (us : List Term) (ls : List Left) (u : Term) (l : Left) → Settled s u l → SettledTo i us ls → SettledTo (suc i) (set us i u) (set ls i l)
  settled_put i [] ls u l b w = tt
  settled_put zero (x ∷ us) [] u l b w = tt
  settled_put (suc i) (x ∷ us) [] u l b w = tt
  settled_put zero (x ∷ us) (y ∷ ls) u l b w = (b, tt)
  settled_put (suc i) (x ∷ us) (y ∷ ls) u l b w = (w.0, settled_put i us ls u l b w.1)

  settled-all : (n : ℕ) (us : List Term) (ls : List Left) → length us ≤ n → SettledTo n us ls → AllSettled s us ls
  settled-all n [] ls l w = tt
  settled-all n (u ∷ us) [] l w = tt
  settled-all zero (u ∷ us) (y ∷ ls) l w = absurd (omega arith)
  settled-all (suc n) (u ∷ us) (y ∷ ls) l w = (w.0, settled-all n us ls (omega arith) w.1)

-- ---- the loop: the first t lists are brought on
pub record Filling (s ds₀ ss₀ : List ℕ) (hs₀ : List Head) (ls₀ : List Left) (ds ss : List ℕ) (hs : List Head) (ls : List Left) (t : ℕ) : Type 0 where
  pub t_in : t ≤ max_terms
  pub lines : Lines s ds ss hs ls
  pub same : wholes s (terms ds ss hs) ls ≡ wholes s (terms ds₀ ss₀ hs₀) ls₀
  pub fault : fault_left s ls ≡ fault_left s ls₀
  pub settled : SettledTo s (term_of ds ss blank) t (terms ds ss hs) ls

pub filling_none : (s ds ss : List ℕ) (hs : List Head) (ls : List Left) → Lines s ds ss hs ls → Filling s ds ss hs ls ds ss hs ls 0
filling_none s ds ss hs ls w = record { t_in = omega arith; lines = w; same = refl; fault = refl; settled = tt }

module _ (s ds₀ ss₀ : List ℕ) (hs₀ : List Head) (ls₀ : List Left) (ds ss : List ℕ) (hs : List Head) (ls : List Left) (t : ℕ) (w : Filling s ds₀ ss₀ hs₀ ls₀ ds ss hs ls t) where
  pub filling_turn : t < max_terms → (ds' ss' : List ℕ) (h : Head) (l : Left) → Refilled s ds ss t (get_or hs t blank) (get_or ls t no_left) ds' ss' h l
      → Filling s ds₀ ss₀ hs₀ ls₀ ds' ss' (set hs t h) (set ls t l) (t + 1)
  filling_turn m ds' ss' h l r =
      let n = w.lines in
      let z = term_of ds ss blank in
      let us = terms ds ss hs in
      let a : t < length us = omega (arith, n.heads, length-map hs (term_of ds ss)) in
      let b : t < length ls = omega (arith, n.lefts) in
      let p = terms_put ds ss ds' ss' t r.others 0 t hs h (omega arith) (omega (arith, n.heads)) n.parts n.inside r.line.own r.line.inside in
      let same : whole s (term_of ds' ss' h) l ≡ whole s (get_or us t z) (get_or ls t no_left) = rw (get_d_map (term_of ds ss) blank hs t) r.same in
      record {
        t_in = omega arith;
        lines = record {
          heads = length-set hs t h ∙ n.heads;
          lefts = length-set ls t l ∙ n.lefts;
          inside = p.1;
          parts = p.2;
          behind = rw p.0 (behind_put s z t us ls (term_of ds' ss' h) l r.line.behind n.behind);
        };
        same = rw p.0 (wholes_put s z t us ls (term_of ds' ss' h) l same a b ∙ w.same);
        fault = fault_put s z t ls l r.fault ∙ w.fault;
        settled = rw (p.0, add-one t) (settled_put s z t us ls (term_of ds' ss' h) l r.settled w.settled);
      }

  pub filling_wrong : (fault_in (on_shelf s (get_or ls t no_left).blocks) ≡ none → ⊥) → t < max_terms → fault_left s ls₀ ≡ none → ⊥
  filling_wrong f m e = f (none-at t ls (omega (arith, w.lines.lefts)) (w.fault ∙ e))
    where
      none_both : (a b : Option ℕ) → earlier a b ≡ none → (a ≡ none) × (b ≡ none)
      none_both none b q = (refl, q)
      none_both (some x) none q = let y : ◌≡◌ {A = ℕ} 0 1 = cc in absurd (omega arith)
      none_both (some x) (some y) q = let y : ◌≡◌ {A = ℕ} 0 1 = cc in absurd (omega arith)

      none-at : (i : ℕ) (xs : List Left) → i < length xs → fault_left s xs ≡ none → fault_in (on_shelf s (get_or xs i no_left).blocks) ≡ none
      none-at i [] l q = absurd (omega arith)
      none-at zero (x ∷ xs) l q = (none_both (fault_in (on_shelf s x.blocks)) (fault_left s xs) q).0
      none-at (suc i) (x ∷ xs) l q = none-at i xs (omega arith) (none_both (fault_in (on_shelf s x.blocks)) (fault_left s xs) q).1

  pub filling_done : max_terms ≤ t → FilledUp s ds₀ ss₀ hs₀ ls₀ ds ss hs ls
  filling_done l = record {
    lines = w.lines;
    same = w.same;
    fault = w.fault;
    settled = settled-all s (term_of ds ss blank) t (terms ds ss hs) ls (omega (arith, w.lines.heads, length-map hs (term_of ds ss))) w.settled;
  }

-- ---- the horizon, list by list
pub horizon-turn : (hs : List Head) (ls : List Left) (i last next : ℕ) → i < length hs → i < length ls → next ≡ nearer (get_or hs i blank) (get_or ls i no_left) last
    → min last (horizon_of (drop i hs) (drop i ls)) ≡ min next (horizon_of (drop (i + 1) hs) (drop (i + 1) ls))
horizon-turn hs ls i last next a b e =
    rw (e, add-one i, drop-cons hs i blank a, drop-cons ls i no_left b)
    (glue (ltb (get_or hs i blank).doc run.none) last (get_or ls i no_left).top (horizon_of (drop (suc i) hs) (drop (suc i) ls)))
  where
    glue : (q : Bool) (x y r : ℕ) → min x (cond q (min r y) r) ≡ min (cond q (min x y) x) r
    glue true x y r = omega arith
    glue false x y r = refl

pub horizon-past : (hs : List Head) (ls : List Left) (i last : ℕ) → length hs ≤ i → last ≤ run.none → min last (horizon_of (drop i hs) (drop i ls)) ≡ last
horizon-past hs ls i last l t = rw (drop_of_length-le hs l) (omega arith)

pub nearer-top : (h : Head) (l : Left) (last next : ℕ) → last ≤ run.none → next ≡ nearer h l last → next ≤ run.none
nearer-top h l last next t e = rw e (split (ltb h.doc run.none) (λ q. rw q (omega arith)) (λ q. rw q t))

pub horizon-top : (hs : List Head) (ls : List Left) → horizon_of hs ls ≤ run.none
horizon-top [] ls = omega arith
horizon-top (h ∷ hs) [] = omega arith
horizon-top (h ∷ hs) (l ∷ ls) = nearer-top h l (horizon_of hs ls) (horizon_of (h ∷ hs) (l ∷ ls)) (horizon-top hs ls) refl
