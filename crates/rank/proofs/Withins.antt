-- The hits of a stretch of docids. Assumes nothing.
use Prim.Native.Nat.{ℕ, suc, ◌-◌, ◌≤◌, ◌<◌}
use mathlib.Core.Path.{◌≡◌, refl, ap}
use mathlib.Core.Bool.{true}
use mathlib.Core.List.{List, [], ◌∷◌, ◌++◌}
use native.Mathlib.Omega.{arith}
use lib.Dec.{leb}
use borrow.Author.Tests.{leb-true, leb-false, le-leb, lt-leb}
use Rattle.model.specs.Post.{Rising, last_doc}
use Rattle.model.specs.Runs.{All}
use Rattle.model.proofs.Lists.{split, All_map}
use Rattle.rank.specs.Rank.{Hit}
use Rattle.rank.specs.Match.{inside, within}
use Rattle.rank.proofs.Matches.{inside-first, inside-last}

-- Docids that rise
pub rising-above : (n : ℕ) (hs : List Hit) → Rising n hs → All (λ h. n < h.doc) hs
rising-above n [] r = tt
rising-above n (h ∷ hs) r = (r.0, All_map hs (λ x l. omega arith) (rising-above h.doc hs r.1))

pub rising-front : (n : ℕ) (xs ys : List Hit) → Rising n (xs ++ ys) → Rising n xs
rising-front n [] ys r = tt
rising-front n (x ∷ xs) ys r = (r.0, rising-front x.doc xs ys r.1)

pub rising-rest : (n : ℕ) (xs ys : List Hit) → Rising n (xs ++ ys) → Rising (last_doc n xs) ys
rising-rest n [] ys r = r
rising-rest n (x ∷ xs) ys r = rising-rest x.doc xs ys r.1

pub rising-raise : (m n : ℕ) (hs : List Hit) → All (λ h. m < h.doc) hs → Rising n hs → Rising m hs
rising-raise m n [] a r = tt
rising-raise m n (h ∷ hs) a r = (a.0, r.1)

-- A stretch
pub within_all : (P Q : Hit → Type 0) (lo hi : ℕ) (hs : List Hit) → ((h : Hit) → inside lo hi h.doc ≡ true → Q h → P h) → All Q hs → All P (within lo hi hs)
within_all P Q lo hi [] f all = tt
within_all P Q lo hi (h ∷ hs) f all =
    split (inside lo hi h.doc)
    (λ e. rw e (f h e all.0, within_all P Q lo hi hs f all.1))
    (λ e. rw e (within_all P Q lo hi hs f all.1))

pub within_none : (lo hi : ℕ) (hs : List Hit) → All (λ h. hi < h.doc) hs → within lo hi hs ≡ []
within_none lo hi [] all = refl
within_none lo hi (h ∷ hs) all =
    split (leb lo h.doc)
    (λ e. rw (e, lt-leb h.doc hi all.0) (within_none lo hi hs all.1))
    (λ e. rw e (within_none lo hi hs all.1))

-- two stretches, the second from `c` on
pub within-split : (n lo c hi : ℕ) (hs : List Hit) → 1 ≤ c → lo ≤ c → c ≤ suc hi → Rising n hs → within lo (c - 1) hs ++ within c hi hs ≡ within lo hi hs
within-split n lo c hi [] p l m r = refl
within-split n lo c hi (h ∷ hs) p l m r =
    let below : within lo (c - 1) hs ++ within c hi hs ≡ within lo hi hs = within-split h.doc lo c hi hs p l m r.1 in
    split (leb lo h.doc)
    (λ e. split (leb h.doc (c - 1))
    (λ f. let k : h.doc ≤ c - 1 = leb-true _ _ f in
    rw (e, f, lt-leb c h.doc (omega arith), le-leb h.doc hi (omega arith)) (ap {B = List Hit} (λ t. h ∷ t) below))
    (λ f. let k : c - 1 < h.doc = leb-false _ _ f in
    let none : within lo (c - 1) hs ≡ [] = within_none lo (c - 1) hs (All_map hs (λ x d. omega arith) (rising-above h.doc hs r.1)) in
    let same : within c hi hs ≡ within lo hi hs = rw none at below in
    rw (e, f, le-leb c h.doc (omega arith), none, same)))
    (λ e. let k : h.doc < lo = leb-false _ _ e in rw (e, lt-leb c h.doc (omega arith)) below)

pub within-whole : (lo hi : ℕ) (hs : List Hit) → All (λ h. (lo ≤ h.doc) × (h.doc ≤ hi)) hs → within lo hi hs ≡ hs
within-whole lo hi [] all = refl
within-whole lo hi (h ∷ hs) all =
    rw (le-leb lo h.doc all.0.0, le-leb h.doc hi all.0.1) (ap {B = List Hit} (λ t. h ∷ t) (within-whole lo hi hs all.1))

rising_weaken : (m n : ℕ) (hs : List Hit) → m ≤ n → Rising n hs → Rising m hs
rising_weaken m n [] l r = tt
rising_weaken m n (h ∷ hs) l r = (omega arith, r.1)

pub within-rising : (n lo hi : ℕ) (hs : List Hit) → Rising n hs → Rising n (within lo hi hs)
within-rising n lo hi [] r = tt
within-rising n lo hi (h ∷ hs) r =
    let more : Rising h.doc (within lo hi hs) = within-rising h.doc lo hi hs r.1 in
    split (inside lo hi h.doc) (λ e. rw e (r.0, more)) (λ e. rw e (rising_weaken n h.doc (within lo hi hs) (omega arith) more))

pub within_range : (n lo hi : ℕ) (hs : List Hit) → Rising n hs → All (λ h. (lo ≤ h.doc) × (h.doc ≤ hi)) (within lo hi hs)
within_range n lo hi hs r =
    within_all (λ h. (lo ≤ h.doc) × (h.doc ≤ hi)) (λ h. n < h.doc) lo hi hs
    (λ h i w. (inside-first lo hi h.doc i, inside-last lo hi h.doc i)) (rising-above n hs r)

-- the stretch up to below its first docid is empty
pub within_empty : (lo hi : ℕ) (hs : List Hit) → hi < lo → within lo hi hs ≡ []
within_empty lo hi [] l = refl
within_empty lo hi (h ∷ hs) l =
    split (leb lo h.doc)
    (λ e. let k : lo ≤ h.doc = leb-true _ _ e in rw (e, lt-leb h.doc hi (omega arith)) (within_empty lo hi hs l))
    (λ e. rw e (within_empty lo hi hs l))
