-- The ranking of some hits is the k best of them. Assumes nothing.
use Prim.Native.Nat.{ℕ, zero, suc, ◌+◌, ◌≤◌, ◌<◌}
use native.Mathlib.Omega.{arith}
use mathlib.Core.Path.{◌≡◌, refl, sym, subst}
use mathlib.Core.Bool.{Bool, true, false, false≢true, ◌||◌, cond}
use mathlib.Core.Logic.{◌⊎◌, inl, inr, ⊎_elim, ◌↔◌}
use mathlib.Core.List.{List, [], ◌∷◌, foldl}
use borrow.Author.Tests.{eqb-false, ne_eqb}
use lib.Dec.{eqb}
use lib.ListN.{take, length-take}
use Rattle.model.specs.Post.{docs, Rising}
use Rattle.model.specs.Runs.{All, has}
use Rattle.model.proofs.Lists.{split, both_ways, All_map}
use Rattle.query.specs.Range.{Once}
use Rattle.rank.specs.Rank.{Hit, ahead, insert, sort, ranking, Ordered}
use Rattle.rank.proofs.Order.{before-ahead, ahead-true, neither_same}
use Rattle.rank.proofs.Ranks.{All_insert, sort_ordered, sort-length, take_ordered}
use Rattle.promises.specs.Ranked.{In, Before, InOrder, FewBefore, KBest}

pub all_in : {A : Type 0} (P : A → Type 0) (x : A) (xs : List A) → All P xs → In x xs → P x
all_in {A = A} P x [] all i = elim i [ ]
all_in P x (y ∷ ys) all (inl e) = subst P e all.0
all_in P x (y ∷ ys) all (inr i) = all_in P x ys all.1 i

-- ---- the order of the demands is that of the ranking

pub before-is : (a b : Hit) → Before a b ↔ (ahead a b ≡ true)
before-is a b = (before-ahead a b, ahead-true a b)

not-before : (a b : Hit) → (Before a b → ⊥) → ahead a b ≡ false
not-before a b n = split (ahead a b) (λ e. absurd (n ((before-is a b).1 e))) (λ e. e)

ordered_in : (xs : List Hit) → Ordered xs → InOrder xs
ordered_in [] o = tt
ordered_in (x ∷ xs) o = (All_map xs (λ (y : Hit) e b. both_ways (ahead y x) ((before-is y x).0 b) e) o.0, ordered_in xs o.1)

-- how many of the hits come before it
abbrev count_ahead : Hit → List Hit → ℕ
count_ahead h [] = 0
count_ahead h (x ∷ xs) = cond (ahead x h) 1 0 + count_ahead h xs

few-ahead : (h : Hit) (k : ℕ) (xs : List Hit) → FewBefore h k xs → count_ahead h xs < k
few-ahead h zero xs f = absurd f
few-ahead h (suc k) [] f = omega arith
few-ahead h (suc k) (x ∷ xs) (inl f) = rw ((before-is x h).0 f.0) (omega (arith, few-ahead h k xs f.1))
few-ahead h (suc k) (x ∷ xs) (inr f) = rw (not-before x h f.0) (omega (arith, few-ahead h (suc k) xs f.1))

-- ---- sorting keeps the hits

ahead-insert : (h x : Hit) (xs : List Hit) → count_ahead h (insert x xs) ≡ cond (ahead x h) 1 0 + count_ahead h xs
ahead-insert h x [] = refl
ahead-insert h x (y ∷ xs) = split (ahead x y) (λ e. rw e) (λ e. rw e (omega (arith, ahead-insert h x xs)))

ahead_inserts : (h : Hit) (s hs : List Hit) → count_ahead h (foldl (λ s h. insert h s) s hs) ≡ count_ahead h s + count_ahead h hs
ahead_inserts h s [] = omega arith
ahead_inserts h s (x ∷ hs) = omega (arith, ahead_inserts h (insert x s) hs, ahead-insert h x s)

-- one of three, in another order
turned : {A B C D : Type 0} → (A ⊎ C → D) → A ⊎ (B ⊎ C) → B ⊎ D
turned f (inl p) = inr (f (inl p))
turned f (inr (inl p)) = inl p
turned f (inr (inr p)) = inr (f (inr p))

turned_back : {A B C D : Type 0} → (D → A ⊎ C) → B ⊎ D → A ⊎ (B ⊎ C)
turned_back f (inl p) = inr (inl p)
turned_back f (inr p) = ⊎_elim (λ a. inl a) (λ c. inr (inr c)) (f p)

in_insert : (h x : Hit) (xs : List Hit) → (x ≡ h) ⊎ In h xs → In h (insert x xs)
in_insert h x [] i = i
in_insert h x (y ∷ xs) i = split (ahead x y) (λ e. rw e i) (λ e. rw e (turned (in_insert h x xs) i))

insert_in : (h x : Hit) (xs : List Hit) → In h (insert x xs) → (x ≡ h) ⊎ In h xs
insert_in h x [] i = i
insert_in h x (y ∷ xs) i = split (ahead x y) (λ e. rw e at i) (λ e. turned_back (insert_in h x xs) (rw e at i))

in_inserts : (h : Hit) (s hs : List Hit) → In h s ⊎ In h hs → In h (foldl (λ s h. insert h s) s hs)
in_inserts h s [] (inl p) = p
in_inserts h s [] (inr p) = elim p [ ]
in_inserts h s (x ∷ hs) (inl p) = in_inserts h (insert x s) hs (inl (in_insert h x s (inr p)))
in_inserts h s (x ∷ hs) (inr (inl p)) = in_inserts h (insert x s) hs (inl (in_insert h x s (inl p)))
in_inserts h s (x ∷ hs) (inr (inr p)) = in_inserts h (insert x s) hs (inr p)

inserts_in : (h : Hit) (s hs : List Hit) → In h (foldl (λ s h. insert h s) s hs) → In h s ⊎ In h hs
inserts_in h s [] i = inl i
inserts_in h s (x ∷ hs) i = ⊎_elim (λ p. ⊎_elim (λ e. inr (inl e)) (λ q. inl q) (insert_in h x s p)) (λ p. inr (inr p)) (inserts_in h (insert x s) hs i)

none_or : (h : Hit) (hs : List Hit) → In h [] ⊎ In h hs → In h hs
none_or h hs (inl p) = elim p [ ]
none_or h hs (inr p) = p

-- ---- the first k of them

take_in : (k : ℕ) (h : Hit) (xs : List Hit) → In h (take k xs) → In h xs
take_in zero h xs i = elim i [ ]
take_in (suc k) h [] i = elim i [ ]
take_in (suc k) h (x ∷ xs) (inl e) = inl e
take_in (suc k) h (x ∷ xs) (inr i) = inr (take_in k h xs i)

in_take : (k : ℕ) (h : Hit) (xs : List Hit) → Ordered xs → In h xs → count_ahead h xs < k → In h (take k xs)
in_take zero h xs o i l = absurd (omega arith)
in_take (suc k) h [] o i l = elim i [ ]
in_take (suc k) h (x ∷ xs) o (inl e) l = inl e
in_take (suc k) h (x ∷ xs) o (inr i) l =
    split (ahead x h)
    (λ e. let m : 1 + count_ahead h xs < suc k = rw e at l in inr (in_take k h xs o.1 i (omega arith)))
    (λ e. inl (neither_same x h e (all_in (λ y. ahead y x ≡ false) h xs o.0 i)))

-- ---- no sheet stands there twice

either_not : (a b : Bool) → (a || b) ≡ false → (a ≡ false) × (b ≡ false)
either_not true b e = absurd (false≢true (sym e))
either_not false b e = (refl, e)

apart_insert : (d : ℕ) (h : Hit) (xs : List Hit) → eqb d h.doc ≡ false → has d (docs xs) ≡ false → has d (docs (insert h xs)) ≡ false
apart_insert d h [] e n = rw e
apart_insert d h (x ∷ xs) e n =
    let o = either_not (eqb d x.doc) (has d (docs xs)) n in
    split (ahead h x) (λ a. rw (a, e) n) (λ a. rw (a, o.0) (apart_insert d h xs e o.1))

once-insert : (h : Hit) (xs : List Hit) → has h.doc (docs xs) ≡ false → Once (docs xs) → Once (docs (insert h xs))
once-insert h [] n o = (refl, tt)
once-insert h (x ∷ xs) n o =
    let m = either_not (eqb h.doc x.doc) (has h.doc (docs xs)) n in
    let e : eqb x.doc h.doc ≡ false = ne_eqb x.doc h.doc (λ (q : x.doc ≡ h.doc). eqb-false h.doc x.doc m.0 (sym q)) in
    split (ahead h x) (λ a. rw a (n, o)) (λ a. rw a (apart_insert x.doc h xs e o.0, once-insert h xs m.1 o.1))

-- a docid above all of them is none of them
above_apart : (d : ℕ) (xs : List Hit) → All (λ (x : Hit). x.doc < d) xs → has d (docs xs) ≡ false
above_apart d [] a = refl
above_apart d (x ∷ xs) a = rw (ne_eqb d x.doc (λ (q : d ≡ x.doc). omega (arith, a.0))) (above_apart d xs a.1)

inserts_once : (n : ℕ) (s hs : List Hit) → All (λ (x : Hit). x.doc ≤ n) s → Rising n hs → Once (docs s) → Once (docs (foldl (λ s h. insert h s) s hs))
inserts_once n s [] a r o = o
inserts_once n s (h ∷ hs) a r o =
    inserts_once h.doc (insert h s) hs
    (All_insert (λ (x : Hit). x.doc ≤ h.doc) h s (omega arith) (All_map s (λ (x : Hit) l. omega (arith, r.0)) a)) r.1
    (once-insert h s (above_apart h.doc s (All_map s (λ (x : Hit) l. omega (arith, r.0)) a)) o)

apart_take : (k d : ℕ) (xs : List Hit) → has d (docs xs) ≡ false → has d (docs (take k xs)) ≡ false
apart_take zero d xs n = refl
apart_take (suc k) d [] n = refl
apart_take (suc k) d (x ∷ xs) n = let o = either_not (eqb d x.doc) (has d (docs xs)) n in rw o.0 (apart_take k d xs o.1)

once-take : (k : ℕ) (xs : List Hit) → Once (docs xs) → Once (docs (take k xs))
once-take zero xs o = tt
once-take (suc k) [] o = tt
once-take (suc k) (x ∷ xs) o = (apart_take k x.doc xs o.0, once-take k xs o.1)

pub ranking-once : (k : ℕ) (hs : List Hit) → Rising 0 hs → Once (docs (ranking k hs))
ranking-once k hs r = once-take k (sort hs) (inserts_once 0 [] hs tt r tt)

-- ---- all of it

pub ranking-best : (k : ℕ) (hs : List Hit) → KBest k hs (ranking k hs)
ranking-best k hs = record {
  order = ordered_in (ranking k hs) (take_ordered k (sort hs) (sort_ordered hs));
  count = rw (length-take k (sort hs), sort-length hs);
  only = λ h i. none_or h hs (inserts_in h [] hs (take_in k h (sort hs) i));
  first = λ h i l. in_take k h (sort hs) (sort_ordered hs) (in_inserts h [] hs (inr i)) (omega (arith, ahead_inserts h [] hs, few-ahead h k hs l));
}
