-- What a body reads as, whole or not: its postings rise, there are no more of them than its summary says, and none is above the greatest docid. Assumes nothing.
use Prim.Native.Nat.{ℕ, zero, suc, ◌+◌, ◌≤◌, ◌<◌}
use mathlib.Core.Bool.{Bool, true, false}
use mathlib.Core.List.{List}
use native.Mathlib.Omega.{arith}
use lib.ListN.{length, take, drop}
use lib.Dec.{leb}
use borrow.Author.Tests.{leb-true}
use Rattle.model.specs.Post.{Post, Rising}
use Rattle.model.specs.Runs.{All}
use Rattle.model.proofs.Lists.{split}
use Rattle.wire.specs.Read.{Read, got, stopped, further}
use Rattle.wire.specs.Gap.{gap, score}
use Rattle.block.specs.Body.{edge, score_in, wide, with_doc, gapped, posting, read_on, read_to, body_run}
use Rattle.block.specs.declared.summary.Summary.{Summary}

-- ---- a posting whose docid is d, or that follows docid d

-- its docid has a property
abbrev Is : (ℕ → Type 0) → Read Post → Type 0
Is P (got p k) = P p.doc
Is P (stopped k) = Unit {0}

with_is : (P : ℕ → Type 0) (strip : Bool) (d : ℕ) (r : Read ℕ) → P d → Is P (with_doc strip d r)
with_is P true d (got w k) h = h
with_is P false d (got w k) h = h
with_is P true d (stopped k) h = tt
with_is P false d (stopped k) h = tt

further-is : (P : ℕ → Type 0) (k : ℕ) (r : Read Post) → Is P r → Is P (further k r)
further-is P k (got p j) h = h
further-is P k (stopped j) h = tt

-- between the docid before it and the greatest
abbrev Between : (d greatest e : ℕ) → Type 0
Between d greatest e = (d < e) × (e ≤ greatest)

later-is : (strip : Bool) (greatest d : ℕ) (g w : List ℕ) → Is (Between d greatest) (posting strip greatest false d g w)
unfolding posting gapped
later-is strip greatest d g w = go (gap 4 g)
  where
    go : (r : Read ℕ) → Is (Between d greatest) (gapped strip greatest d g w r)
    go (stopped k) = tt
    go (got x k) =
        split (leb (d + 1 + x) greatest)
        (λ e. rw e (further-is (Between d greatest) k (with_doc strip (d + 1 + x) (score (score_in strip k g w))) (with_is (Between d greatest) strip (d + 1 + x) (score (score_in strip k g w)) (omega arith, leb-true _ _ e))))
        (λ e. rw e tt)

first-is : (P : ℕ → Type 0) (strip : Bool) (greatest d : ℕ) (g w : List ℕ) → P d → Is P (posting strip greatest true d g w)
unfolding posting
first-is P strip greatest d g w h = with_is P strip d (score (score_in strip 0 g w)) h

is-under : (d greatest : ℕ) (r : Read Post) → Is (Between d greatest) r → Is (λ e. e ≤ greatest) r
is-under d greatest (got p k) h = h.1
is-under d greatest (stopped k) h = tt

is-above : (d greatest : ℕ) (r : Read Post) → Is (Between d greatest) r → Is (λ e. d < e) r
is-above d greatest (got p k) h = h.0
is-above d greatest (stopped k) h = tt

posting-under : (strip : Bool) (greatest : ℕ) (first : Bool) (d : ℕ) (g w : List ℕ) → d ≤ greatest → Is (λ e. e ≤ greatest) (posting strip greatest first d g w)
posting-under strip greatest true d g w h = first-is (λ e. e ≤ greatest) strip greatest d g w h
posting-under strip greatest false d g w h = is-under d greatest (posting strip greatest false d g w) (later-is strip greatest d g w)

-- ---- all of them

abbrev pub Few : (greatest n : ℕ) → List Post → Type 0
Few greatest n ps = (length ps ≤ n) × All (λ (p : Post). p.doc ≤ greatest) ps

few : (strip : Bool) (greatest n : ℕ) (first : Bool) (d : ℕ) (g w : List ℕ) → d ≤ greatest → Few greatest n (read_to strip greatest n first d g w)
unfolding read_to
few strip greatest zero first d g w h = (omega arith, tt)
few strip greatest (suc n) first d g w h =
    go (posting strip greatest first d g w) (posting-under strip greatest first d g w h) (λ e k l. few strip greatest n false e (drop k g) (drop (wide strip) w) l)
  where
    go : (r : Read Post) → Is (λ e. e ≤ greatest) r → ((e k : ℕ) → e ≤ greatest → Few greatest n (read_to strip greatest n false e (drop k g) (drop (wide strip) w))) →
        Few greatest (suc n) (read_on r (λ p k. read_to strip greatest n false p.doc (drop k g) (drop (wide strip) w)))
    go (stopped k) u ih = (omega arith, tt)
    go (got p k) u ih = let i = ih p.doc k u in (omega (arith, i.0), (u, i.1))

pub run-few : (m : Summary) (s : List ℕ) → m.least ≤ m.greatest → Few m.greatest m.count (body_run m s)
unfolding body_run
run-few m s h =
    let e = edge m.strip m.count s in
    few m.strip m.greatest m.count true m.least (take e s) (drop e s) h

later-rises : (strip : Bool) (greatest n d : ℕ) (g w : List ℕ) → Rising d (read_to strip greatest n false d g w)
unfolding read_to
later-rises strip greatest zero d g w = tt
later-rises strip greatest (suc n) d g w =
    go (posting strip greatest false d g w) (is-above d greatest (posting strip greatest false d g w) (later-is strip greatest d g w)) (λ e k. later-rises strip greatest n e (drop k g) (drop (wide strip) w))
  where
    go : (r : Read Post) → Is (λ e. d < e) r → ((e k : ℕ) → Rising e (read_to strip greatest n false e (drop k g) (drop (wide strip) w))) →
        Rising d (read_on r (λ p k. read_to strip greatest n false p.doc (drop k g) (drop (wide strip) w)))
    go (stopped k) h ih = tt
    go (got p k) h ih = (h, ih p.doc k)

first-rises : (strip : Bool) (greatest n e d : ℕ) (g w : List ℕ) → e < d → Rising e (read_to strip greatest n true d g w)
unfolding read_to
first-rises strip greatest zero e d g w l = tt
first-rises strip greatest (suc n) e d g w l = go (posting strip greatest true d g w) (first-is (λ x. e < x) strip greatest d g w l)
  where
    go : (r : Read Post) → Is (λ x. e < x) r → Rising e (read_on r (λ p k. read_to strip greatest n false p.doc (drop k g) (drop (wide strip) w)))
    go (stopped k) h = tt
    go (got p k) h = (h, later-rises strip greatest n p.doc (drop k g) (drop (wide strip) w))

pub run-rises : (e : ℕ) (m : Summary) (s : List ℕ) → e < m.least → Rising e (body_run m s)
unfolding body_run
run-rises e m s l =
    let x = edge m.strip m.count s in
    first-rises m.strip m.greatest m.count e m.least (take x s) (drop x s) l
