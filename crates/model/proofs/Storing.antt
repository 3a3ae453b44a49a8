-- What a lent run holds after a run of stores, and loops that store piece by piece. Assumes nothing.
use mathlib.Core.List.{List, [], ◌∷◌, ◌++◌}
use mathlib.Core.Path.{◌≡◌, refl, sym, ap, subst, ◌∙◌}
use Prim.Native.Nat.{ℕ, suc, ◌+◌, ◌-◌, ◌<◌, ◌≤◌}
use native.Mathlib.Nat.{add-zero, add-suc, suc-add}
use native.Mathlib.Omega.{arith}
use native.Mathlib.Numerals.{add-one}
use lib.ListN.{length, set, take, drop, length-append, length-drop, take-append-drop}
use lib.Seq.{sets, sets-eq, length-sets, take_all, take-suc-set, drop-set-lt, drop-drop, length-take-le, take_at, drop_at}
use borrow.Rule.Slice.PartMut.{put_mid}
use Rattle.std.proofs.lemmas.Slice.{put_mid-paste}
use Rattle.model.specs.Runs.{Stored, Holds}

-- no bound is asked: what lies past the end is not stored by either
pub sets-append : (l : List ℕ) (i : ℕ) (vs ws : List ℕ) → sets l i (vs ++ ws) ≡ sets (sets l i vs) (i + length vs) ws
sets-append l i [] ws = rw add-zero
sets-append l i (v ∷ vs) ws = sets-append (set l i v) (suc i) vs ws ∙ rw (suc-add, add-suc)

-- after a run of stores of vs, one of ws: together a run of both
pub run_on : (l m : List ℕ) (i j : ℕ) (vs ws : List ℕ) → m ≡ sets l i vs → j ≡ i + length vs → sets m j ws ≡ sets l i (vs ++ ws)
run_on l m i j vs ws e n = rw (e, n) (sym (sets-append l i vs ws))

-- what is stored at the front of a run
pub sets-front : (l vs : List ℕ) → length vs ≤ length l → sets l 0 vs ≡ vs ++ drop (length vs) l
sets-front l vs h =
    let e : 0 + length vs ≡ length vs = omega arith in
    sets-eq vs l 0 (omega arith) ∙ rw e

-- `&s[k..]` as the checker has it
pub part_end : (k : ℕ) (l : List ℕ) → take (length l - k) (drop k l) ≡ drop k l
part_end k l = take_all (length l - k) (drop k l) (simp length-drop (omega arith))

-- v, and then w at the place past it: together v ++ w
pub stored-append : {l m o : List ℕ} {at r q : ℕ} {v w : List ℕ} → Stored l m at r v → Stored m o r q w → Stored l o at q (v ++ w)
stored-append {l} {m} {o} {at} {r} {q} {v} {w} s t =
    record {
      past = omega (arith, s.past, t.past, length-append v w);
      whole = t.whole ∙ run_on l m at r v w s.whole s.past;
    }

-- the same bytes by another name
pub stored_as : {l m : List ℕ} {at r : ℕ} {v w : List ℕ} → v ≡ w → Stored l m at r v → Stored l m at r w
stored_as {l} {m} {at} {r} e s = subst (λ (x : List ℕ). Stored l m at r x) e s

pub stored-length : {l m : List ℕ} {at r : ℕ} {v : List ℕ} → Stored l m at r v → length m ≡ length l
stored-length {l} {m} {at} {r} {v} s = ap length s.whole ∙ length-sets l at v

-- a loop that stores v piece by piece, from the run l to the run m: w is left to store, at j
pub record Rest (l m : List ℕ) (at j : ℕ) (v w : List ℕ) : Type 0 where
  pub same : length m ≡ length l
  pub place : j + length w ≡ at + length v
  pub goal : sets m j w ≡ sets l at v

pub rest-start : (l : List ℕ) (at : ℕ) (v : List ℕ) → Rest l l at at v v
rest-start l at v = record { same = refl; place = refl; goal = refl }

-- the next piece is p
pub rest-turn : {l m o : List ℕ} {at j r : ℕ} {v w : List ℕ} (p x : List ℕ) → w ≡ p ++ x → Rest l m at j v w → Stored m o j r p → Rest l o at r v x
rest-turn {l} {m} {o} {at} {j} {r} {v} {w} p x e t s =
    record {
      same = stored-length s ∙ t.same;
      place = omega (arith, s.past, t.place, ap length e, length-append p x);
      goal = run_on m o j r p x s.whole s.past ∙ ap (λ (y : List ℕ). sets m j y) (sym e) ∙ t.goal;
    }

pub rest_end : {l m : List ℕ} {at j : ℕ} {v w : List ℕ} → w ≡ [] → Rest l m at j v w → Stored l m at j v
rest_end {l} {m} {at} {j} {v} {w} e t =
    record {
      past = omega (arith, t.place, ap length e);
      whole = sym (ap (λ (y : List ℕ). sets m j y) e) ∙ t.goal;
    }

-- there is room for the next piece
pub rest-room : {l m : List ℕ} {at j : ℕ} {v w : List ℕ} (p x : List ℕ) → w ≡ p ++ x → Rest l m at j v w → at + length v ≤ length l → j + length p ≤ length m
rest-room {l} {m} {at} {j} {v} {w} p x e t h = omega (arith, t.same, t.place, ap length e, length-append p x)

-- w put over the part of n bytes that begins at a place
pub stored_over : (l v w : List ℕ) (at n k : ℕ) → w ≡ v → length v ≡ n → k ≡ n → at + n ≤ length l → Stored l (put_mid at k l w) at (at + n) v
stored_over l v w at n k e s q h =
    record {
      past = omega (arith, s);
      whole = put_mid-paste at k l w v (length v) e (s ∙ sym q) refl
          ∙ ap (λ (t : List ℕ). take at l ++ t ++ drop (at + length v) l) (take_all (length v) v (omega arith))
          ∙ sym (sets-eq v l at (omega arith));
    }

-- ---- a run written from the front

-- A store past a run that is written: one more is written, and what lies past that is as it was
pub front-more : (out : List ℕ) (o x : ℕ) → o < length out → take (o + 1) (set out o x) ≡ take o out ++ (x ∷ [])
front-more out o x h = rw (add-one o) (take-suc-set out o x h)

pub past_more : (old out : List ℕ) (o x : ℕ) → drop o out ≡ drop o old → drop (o + 1) (set out o x) ≡ drop (o + 1) old
past_more old out o x e =
    drop-set-lt (o + 1) out o x (omega arith) ∙ sym (drop-drop 1 o out) ∙ ap {B = List ℕ} (λ t. drop 1 t) e ∙ drop-drop 1 o old

-- a run that is written and a rest as it was: the whole
pub run_holds : (old xs out : List ℕ) (o : ℕ) → o ≤ length out → take o out ≡ xs → drop o out ≡ drop o old → Holds old xs out o
run_holds old xs out o h t d = record {
  count = sym (length-take-le o out h) ∙ ap length t;
  whole = sym (take-append-drop o out) ∙ rw (t, d);
}

pub holds-take : (old xs new : List ℕ) (r : ℕ) → Holds old xs new r → take r new ≡ xs
holds-take old xs new r h = rw h.whole (take_at xs (drop r old) r (sym h.count))

pub holds-drop : (old xs new : List ℕ) (r : ℕ) → Holds old xs new r → drop r new ≡ drop r old
holds-drop old xs new r h = rw h.whole (drop_at xs (drop r old) r (sym h.count))

pub holds-none : (old : List ℕ) (n : ℕ) → n ≤ length old → Holds old (take n old) old n
holds-none old n h = run_holds old (take n old) old n h refl refl

-- one run after another, the later no shorter
pub holds_trans : (old xs mid ys new : List ℕ) (m r : ℕ) → Holds old xs mid m → Holds mid ys new r → m ≤ r → Holds old ys new r
holds_trans old xs mid ys new m r h k l = record {
  count = k.count;
  whole = k.whole ∙ ap {B = List ℕ} (λ t. ys ++ t) past;
}
  where
    way : m + (r - m) ≡ r
    way = omega arith

    past : drop r mid ≡ drop r old
    past = rw (← way, ← drop-drop (r - m) m mid, holds-drop old xs mid m h) (drop-drop (r - m) m old)

-- what was stored from the front on
pub stored-holds : {l m v : List ℕ} {r : ℕ} → length v ≤ length l → Stored l m 0 r v → Holds l v m r
stored-holds {l} {m} {v} {r} h s =
    let e : r ≡ length v = omega (arith, s.past) in
    record { count = e; whole = s.whole ∙ sets-front l v h ∙ ap (λ (k : ℕ). v ++ drop k l) (sym e) }
