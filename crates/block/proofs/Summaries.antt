-- A summary: by the tests that the code makes, and round trips. Assumes nothing.
use Prim.Native.Nat.{ℕ, suc, ◌+◌, ◌-◌, ◌^◌, ◌≤◌, ◌<◌, max}
use native.Mathlib.Omega.{arith}
use mathlib.Core.Path.{◌≡◌, refl, ◌∙◌}
use mathlib.Core.Bool.{Bool, true, false, ◌||◌}
use mathlib.Core.List.{List, [], ◌∷◌, ◌++◌, append_assoc}
use borrow.Author.Tests.{eqb-true, le-leb, eq-eqb, ne_eqb, lt-ltb, ltb-true}
use lib.Dec.{leb, ltb, eqb}
use lib.ListN.{length, drop, length-append}
use lib.Seq.{drop-drop, drop_at}
use Rattle.model.specs.Limits.{per_block}
use Rattle.model.specs.Post.{Post, Rising, Scored, last_doc, top_score}
use Rattle.model.proofs.Lists.{split, and-true}
use Rattle.model.proofs.Posts.{rising-last}
use Rattle.wire.specs.Number.{num, be}
use Rattle.wire.specs.Field.{field_len, whole, field_bytes, field_at}
use Rattle.std.specs.Prelude.{Some, None}
use Rattle.wire.proofs.Numbers.{num-be, be-length}
use Rattle.wire.proofs.Fields.{field_is, field-not, whole-size, whole_round, len_round, head-drop, field-size}
use Rattle.block.specs.Summary.{is_sum, sum_of, sum_bytes, sum_at, right_sum, summary_of}
use Rattle.block.specs.declared.summary.Summary.{Summary}
use Rattle.std.specs.Prelude.{Some, None}

-- ---- at a place

module _ (s : List ℕ) (at : ℕ) where
  pub sum-none : field_at 2 s at ≡ None → sum_at s at ≡ None
  unfolding sum_at is_sum
  sum-none e = rw (field-not 2 s at e)

  pub sum-other : (n : ℕ) → field_at 2 s at ≡ Some n → (n ≡ 9 → ⊥) → sum_at s at ≡ None
  unfolding sum_at is_sum
  sum-other n e z =
      let i = field_is 2 s at n e in
      rw (i.0, i.1, ne_eqb n 9 z)

  pub sum-there : (n : ℕ) → field_at 2 s at ≡ Some n → n ≡ 9 → sum_at s at ≡ Some (sum_of false (drop at s))
  unfolding sum_at is_sum
  sum-there n e q =
      let i = field_is 2 s at n e in
      rw (i.0, i.1, eq-eqb n 9 q)

  pub sum-numbers : (strip : Bool) →
      sum_of strip (drop at s) ≡ record { least = num 3 (drop (at + 3) s); greatest = num 3 (drop (at + 6) s); top = num 2 (drop (at + 9) s); count = num 1 (drop (at + 11) s); strip = strip }
  unfolding sum_of
  sum-numbers strip = rw (drop-drop 3 at s, drop-drop 6 at s, drop-drop 9 at s, drop-drop 11 at s)

  -- from what the code found back to what was read
  pub sum-found : (m : Summary) → sum_at s at ≡ Some m → (is_sum (drop at s) ≡ true) × (sum_of false (drop at s) ≡ m)
  unfolding sum_at
  sum-found m e =
      split (is_sum (drop at s))
      (λ w. let q : Some (sum_of false (drop at s)) ≡ Some m = rw w at e in (w, (cc)))
      (λ w. let q : None ≡ Some m = rw w at e in let z : ◌≡◌ {A = ℕ} 0 1 = cc in absurd (omega arith))

  pub sum_missing : sum_at s at ≡ None → is_sum (drop at s) ≡ false
  unfolding sum_at
  sum_missing e =
      split (is_sum (drop at s))
      (λ w. let q : Some (sum_of false (drop at s)) ≡ None = rw w at e in let z : ◌≡◌ {A = ℕ} 0 1 = cc in absurd (omega arith))
      (λ w. w)

pub sum_room : (s : List ℕ) → is_sum s ≡ true → 12 ≤ length s
unfolding is_sum
sum_room s e =
    let a = and-true (whole 2 s) _ e in
    omega (arith, whole-size 2 s a.0, eqb-true (field_len s) 9 a.1)

-- ---- the bytes, as the code stores them

value-size : (m : Summary) → length (be 3 m.least ++ (be 3 m.greatest ++ (be 2 m.top ++ be 1 m.count))) ≡ 9
value-size m =
    omega (
      arith,
      length-append (be 3 m.least) (be 3 m.greatest ++ (be 2 m.top ++ be 1 m.count)),
      length-append (be 3 m.greatest) (be 2 m.top ++ be 1 m.count),
      length-append (be 2 m.top) (be 1 m.count),
      be-length 3 m.least,
      be-length 3 m.greatest,
      be-length 2 m.top,
      be-length 1 m.count,
    )

pub sum-parts : (m : Summary) → (2 ∷ be 2 9) ++ (be 3 m.least ++ (be 3 m.greatest ++ (be 2 m.top ++ be 1 m.count))) ≡ sum_bytes m
unfolding sum_bytes field_bytes
sum-parts m = rw (value-size m)

pub sum-size : (m : Summary) → length (sum_bytes m) ≡ 12
unfolding sum_bytes
sum-size m = field-size 2 (be 3 m.least ++ (be 3 m.greatest ++ (be 2 m.top ++ be 1 m.count))) ∙ rw (value-size m)

-- ---- what is written is read back

-- the numbers fit their bytes
pub record Fitting (m : Summary) : Type 0 where
  pub least : m.least < 256 ^ 3
  pub greatest : m.greatest < 256 ^ 3
  pub top : m.top < 256 ^ 2
  pub count : m.count < 256

module _ (m : Summary) (r : List ℕ) where
  pub sum_is : is_sum (sum_bytes m ++ r) ≡ true
  unfolding is_sum sum_bytes
  sum_is =
      let v = be 3 m.least ++ (be 3 m.greatest ++ (be 2 m.top ++ be 1 m.count)) in
      let short : length v < 65536 = omega (arith, value-size m) in
      rw (whole_round 2 v r short, len_round 2 v r short, value-size m)

  past_head : drop 3 (sum_bytes m ++ r) ≡ be 3 m.least ++ (be 3 m.greatest ++ (be 2 m.top ++ (be 1 m.count ++ r)))
  unfolding sum_bytes
  past_head = head-drop 2 (be 3 m.least ++ (be 3 m.greatest ++ (be 2 m.top ++ be 1 m.count))) r ∙ simp append_assoc

  -- n bytes on
  on : (a n k : ℕ) (v t : List ℕ) → drop a (sum_bytes m ++ r) ≡ v ++ t → length v ≡ n → k ≡ a + n → drop k (sum_bytes m ++ r) ≡ t
  on a n k v t e l q = rw (q, ← drop-drop n a (sum_bytes m ++ r), e) (drop_at v t n l)

  pub sum-of : Fitting m → sum_of m.strip (sum_bytes m ++ r) ≡ m
  unfolding sum_of
  sum-of f =
      let a = past_head in
      let b = on 3 3 6 (be 3 m.least) (be 3 m.greatest ++ (be 2 m.top ++ (be 1 m.count ++ r))) a (be-length 3 m.least) refl in
      let c = on 6 3 9 (be 3 m.greatest) (be 2 m.top ++ (be 1 m.count ++ r)) b (be-length 3 m.greatest) refl in
      let d = on 9 2 11 (be 2 m.top) (be 1 m.count ++ r) c (be-length 2 m.top) refl in
      rw (
        a,
        b,
        c,
        d,
        num-be 3 m.least (be 3 m.greatest ++ (be 2 m.top ++ (be 1 m.count ++ r))) f.least,
        num-be 3 m.greatest (be 2 m.top ++ (be 1 m.count ++ r)) f.greatest,
        num-be 2 m.top (be 1 m.count ++ r) f.top,
        num-be 1 m.count r f.count,
      )

-- ---- the summary of postings that follow docid prev is right

pub top_above : (m : ℕ) (ps : List Post) → m ≤ top_score m ps
top_above m [] = omega arith
top_above m (p ∷ ps) = omega (arith, top_above (max m p.score) ps)

pub right-sum : (strip : Bool) (prev : ℕ) (p : Post) (ps : List Post) → Rising prev (p ∷ ps) → Scored (p ∷ ps) → length (p ∷ ps) ≤ per_block → right_sum prev (summary_of strip (p ∷ ps)) ≡ true
unfolding right_sum
right-sum strip prev p ps h s n =
    let l = rising-last p.doc ps h.1 in
    let low : prev < p.doc = h.0 in
    let pos : 0 < top_score (max 0 p.score) ps = omega (arith, top_above (max 0 p.score) ps, s.0.0) in
    rw (
      lt-ltb prev p.doc low,
      le-leb p.doc (last_doc p.doc ps) (omega arith),
      lt-ltb 0 (top_score (max 0 p.score) ps) pos,
      lt-ltb 0 (suc (length ps)) (omega arith),
      le-leb (suc (length ps)) 100 n,
      le-leb (suc (length ps)) (last_doc p.doc ps - p.doc + 1) (omega arith),
    )
    (one p ps)
  where
    one : (p : Post) (ps : List Post) → (ltb 1 (suc (length ps)) || eqb p.doc (last_doc p.doc ps)) ≡ true
    one p [] = eq-eqb p.doc p.doc refl
    one p (q ∷ ps) = rw (lt-ltb 1 (suc (suc (length ps))) (omega arith))

-- ---- what a right summary says

pub record Facts (prev : ℕ) (m : Summary) : Type 0 where
  pub above : prev < m.least
  pub some : 0 < m.count

pub right_facts : (prev : ℕ) (m : Summary) → right_sum prev m ≡ true → Facts prev m
unfolding right_sum
right_facts prev m e =
    let a = and-true (ltb prev m.least) _ e in
    let b = and-true (leb m.least m.greatest) _ a.1 in
    let c = and-true (ltb 0 m.top) _ b.1 in
    let d = and-true (ltb 0 m.count) _ c.1 in
    record { above = ltb-true _ _ a.0; some = ltb-true _ _ d.0 }
