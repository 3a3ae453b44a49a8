-- The walk, by the tests that the code makes. Assumes nothing.
use Prim.Native.Nat.{ℕ, zero, suc, ◌+◌, ◌*◌, ◌-◌, ◌≤◌, ◌<◌}
use native.Mathlib.Omega.{arith}
use native.Mathlib.Numerals.{sub-one}
use mathlib.Core.Path.{◌≡◌, refl, sym, ap, ◌∙◌}
use mathlib.Core.List.{List, [], ◌∷◌}
use mathlib.Core.Bool.{Bool, true, false, cond, ◌&&◌}
use borrow.Author.Tests.{leb-true, eqb-true, le-leb, lt-leb, eq-eqb, ne_eqb, lt-ltb, le-ltb}
use lib.Dec.{leb, ltb, eqb}
use lib.ListN.{length, get_or, take, drop, length-drop}
use lib.Seq.{drop-drop}
use Rattle.model.specs.Limits.{per_list}
use Rattle.model.specs.Outcome.{Outcome, refused, done, and_then}
use Rattle.model.proofs.Lists.{split, and-true, rest_cons, rest-none}
use Rattle.wire.specs.Number.{num}
use Rattle.wire.specs.Field.{whole, field_len, field_value, field_at}
use Rattle.std.specs.Prelude.{Some, None}
use Rattle.wire.proofs.Fields.{field_is, field-not, whole-size, whole-tag, len_at, value-at}
use Rattle.block.specs.Summary.{is_sum, sum_of, right_sum}
use Rattle.block.specs.Body.{is_strip, tag_of}
use Rattle.block.specs.declared.summary.Summary.{Summary}
use Rattle.block.proofs.Summaries.{sum_room}
use Rattle.shelf.specs.Walk.{Listing, head_term, head_count, right_head, one_sum, sums, one_body, bodies_of, bodies, blocks_at, listed, list, onto, lists}
use Rattle.shelf.specs.Answers.{head_at, placed, Ready}
use Rattle.shelf.specs.declared.walk.Place.{Place}
use Rattle.std.specs.Prelude.{Some, None}

-- ---- from a private answer back to the outcome

pub list-is : (r : Outcome Listing) (p : Place) → placed r ≡ done p → (l : Listing) × (r ≡ done l) × (l.place ≡ p)
list-is (done l) p e = (l, refl, (cc))
list-is (refused n o) p e = let z : ◌≡◌ {A = ℕ} 0 1 = cc in absurd (omega arith)

pub list-not : (r : Outcome Listing) (n o : ℕ) → placed r ≡ refused n o → r ≡ refused n o
list-not (done l) n o e = let z : ◌≡◌ {A = ℕ} 0 1 = cc in absurd (omega arith)
list-not (refused m q) n o e = let f : m ≡ n = cc in let g : q ≡ o = cc in rw (f, g)

-- ---- the header at a place

term-at : (s : List ℕ) (at : ℕ) → head_term (drop at s) ≡ num 4 (drop (at + 3) s)
unfolding head_term
term-at s at = rw (drop-drop 3 at s)

count_at : (s : List ℕ) (at : ℕ) → head_count (drop at s) ≡ num 1 (drop (at + 7) s)
unfolding head_count
count_at s at = rw (drop-drop 7 at s)

module _ (floor : ℕ) (s : List ℕ) (at : ℕ) where
  pub head-none : field_at 1 s at ≡ None → head_at floor s at ≡ None
  unfolding head_at right_head
  head-none e = rw (field-not 1 s at e)

  pub head-other : (n : ℕ) → field_at 1 s at ≡ Some n → (n ≡ 5 → ⊥) → head_at floor s at ≡ None
  unfolding head_at right_head
  head-other n e z =
      let i = field_is 1 s at n e in
      rw (i.0, i.1, ne_eqb n 5 z)

  module _ (n t k : ℕ) (e : field_at 1 s at ≡ Some n) (five : n ≡ 5) (te : t ≡ num 4 (drop (at + 3) s)) (ke : k ≡ num 1 (drop (at + 7) s)) where
    numbers : head_at floor s at ≡ cond (leb floor t && (ltb 0 k && leb k 64)) (Some (t, k)) None
    unfolding head_at right_head
    numbers =
        let i = field_is 1 s at n e in
        rw (i.0, i.1, eq-eqb n 5 five, term-at s at, count_at s at, te, ke)

    pub head_low : t < floor → head_at floor s at ≡ None
    head_low h = rw (numbers, lt-leb floor t h)

    pub head-zero : floor ≤ t → k ≡ 0 → head_at floor s at ≡ None
    head-zero h z = rw (numbers, le-leb floor t h, le-ltb 0 k (omega arith))

    pub head_many : floor ≤ t → (k ≡ 0 → ⊥) → 64 < k → head_at floor s at ≡ None
    head_many h z m = rw (numbers, le-leb floor t h, lt-ltb 0 k (omega arith), lt-leb k 64 m)

    pub head-there : floor ≤ t → (k ≡ 0 → ⊥) → k ≤ 64 → head_at floor s at ≡ Some (t, k)
    head-there h z m = rw (numbers, le-leb floor t h, lt-ltb 0 k (omega arith), le-leb k 64 m)

  pub head-found : (t k : ℕ) → head_at floor s at ≡ Some (t, k) → (right_head floor (drop at s) ≡ true) × (head_term (drop at s) ≡ t) × (head_count (drop at s) ≡ k)
  unfolding head_at
  head-found t k e =
      split (right_head floor (drop at s))
      (λ w.
      let q : Some (head_term (drop at s), head_count (drop at s)) ≡ Some (t, k) = rw w at e in
      let f : (head_term (drop at s), head_count (drop at s)) ≡ (t, k) = cc in
      (w, ap (λ (x : ℕ × ℕ). x.0) f, ap (λ (x : ℕ × ℕ). x.1) f))
      (λ w. let q : None ≡ Some (t, k) = rw w at e in let z : ◌≡◌ {A = ℕ} 0 1 = cc in absurd (omega arith))

  pub head_missing : head_at floor s at ≡ None → right_head floor (drop at s) ≡ false
  unfolding head_at
  head_missing e =
      split (right_head floor (drop at s))
      (λ w. let q : Some ((head_term (drop at s)), (head_count (drop at s))) ≡ None = rw w at e in let z : ◌≡◌ {A = ℕ} 0 1 = cc in absurd (omega arith))
      (λ w. w)

pub head-room : (floor : ℕ) (s : List ℕ) → right_head floor s ≡ true → 8 ≤ length s
unfolding right_head
head-room floor s e =
    let a = and-true (whole 1 s) _ e in
    let b = and-true (eqb (field_len s) 5) _ a.1 in
    omega (arith, whole-size 1 s a.0, eqb-true (field_len s) 5 b.0)

-- what a right header says: its term is not below the floor, and it has at most 64 blocks
pub head_facts : (floor : ℕ) (s : List ℕ) → right_head floor s ≡ true → (floor ≤ head_term s) × (head_count s ≤ per_list)
unfolding right_head
head_facts floor s e =
    let a = and-true (whole 1 s) _ e in
    let b = and-true (eqb (field_len s) 5) _ a.1 in
    let c = and-true (leb floor (head_term s)) _ b.1 in
    let d = and-true (ltb 0 (head_count s)) _ c.1 in
    (leb-true _ _ c.0, leb-true _ _ d.1)

-- ---- summaries at a place

-- a summary's numbers are judged whatever the layout of its body
pub any_strip : (strip : Bool) (prev : ℕ) (m : List ℕ) → right_sum prev (sum_of strip m) ≡ right_sum prev (sum_of false m)
unfolding right_sum sum_of
any_strip strip prev m = refl

pub any_greatest : (strip : Bool) (m : List ℕ) → (sum_of strip m).greatest ≡ (sum_of false m).greatest
unfolding sum_of
any_greatest strip m = refl

module _ (n prev at : ℕ) (s : List ℕ) where
  pub sums_none : n ≤ 0 → sums n prev at (drop at s) ≡ done at
  unfolding sums
  sums_none h = let z : n ≡ 0 = omega arith in rw z

sums-more : (n prev at : ℕ) (s : List ℕ) → 0 < n → sums n prev at (drop at s) ≡ and_then (one_sum prev at (drop at s)) (λ g. sums (n - 1) g (at + 12) (drop (at + 12) s))
unfolding sums
sums-more zero prev at s h = absurd (omega arith)
sums-more (suc n) prev at s h = rw (sub-one, drop-drop 12 at s)

module _ (n prev at : ℕ) (s : List ℕ) (some : 0 < n) where
  pub sums-step : (m : Summary) → is_sum (drop at s) ≡ true → sum_of false (drop at s) ≡ m → right_sum prev m ≡ true → sums n prev at (drop at s) ≡ sums (n - 1) m.greatest (at + 12) (drop (at + 12) s)
  unfolding one_sum
  sums-step m i e r = rw (sums-more n prev at s some, i, e, r)

  pub sums-wrong : (m : Summary) → is_sum (drop at s) ≡ true → sum_of false (drop at s) ≡ m → right_sum prev m ≡ false → sums n prev at (drop at s) ≡ refused 7 at
  unfolding one_sum
  sums-wrong m i e r = rw (sums-more n prev at s some, i, e, r)

  pub sums_missing : is_sum (drop at s) ≡ false → sums n prev at (drop at s) ≡ refused 6 at
  unfolding one_sum
  sums_missing i = rw (sums-more n prev at s some, i)

-- ---- bodies at a place

pub bodies-none : (strip : Bool) (n at : ℕ) (s : List ℕ) → n ≤ 0 → bodies_of strip n at (drop at s) ≡ done at
unfolding bodies_of
bodies-none strip n at s h = let z : n ≡ 0 = omega arith in rw z

pub bodies-step : (strip : Bool) (n at : ℕ) (s : List ℕ) → 0 < n → whole (tag_of strip) (drop at s) ≡ true →
    bodies_of strip n at (drop at s) ≡ bodies_of strip (n - 1) (at + (3 + field_len (drop at s))) (drop (at + (3 + field_len (drop at s))) s)
unfolding bodies_of one_body
bodies-step strip zero at s h w = absurd (omega arith)
bodies-step strip (suc n) at s h w = rw (sub-one, w, drop-drop (3 + field_len (drop at s)) at s)

pub bodies_missing : (strip : Bool) (n at : ℕ) (s : List ℕ) → 0 < n → whole (tag_of strip) (drop at s) ≡ false → bodies_of strip n at (drop at s) ≡ refused 6 at
unfolding bodies_of one_body
bodies_missing strip zero at s h w = absurd (omega arith)
bodies_missing strip (suc n) at s h w = rw w

-- a body's tag tells its layout
pub strip-is : (strip : Bool) (s : List ℕ) → whole (tag_of strip) s ≡ true → is_strip s ≡ strip
unfolding is_strip
strip-is true s w = rw (whole-tag 4 s w)
strip-is false s w = rw (whole-tag 3 s w)

-- ---- where they end

abbrev SumsEnd : (n at size : ℕ) → Outcome ℕ → Type 0
SumsEnd n at size (done b) = (b ≡ at + 12 * n) × (12 * n ≤ size)
SumsEnd n at size (refused k o) = Unit {0}

sums-ends : (n prev at : ℕ) (s : List ℕ) → SumsEnd n at (length s) (sums n prev at s)
unfolding sums one_sum
sums-ends zero prev at s = (omega arith, omega arith)
sums-ends (suc n) prev at s =
    split (is_sum s)
    (λ i. split (right_sum prev (sum_of false s))
    (λ r. rw (i, r) (more (sums n (sum_of false s).greatest (at + 12) (drop 12 s)) (sum_room s i) (sums-ends n (sum_of false s).greatest (at + 12) (drop 12 s))))
    (λ r. rw (i, r) tt))
    (λ i. rw i tt)
  where
    more : (r : Outcome ℕ) → 12 ≤ length s → SumsEnd n (at + 12) (length (drop 12 s)) r → SumsEnd (suc n) at (length s) r
    more (done b) h e = (omega (arith, e.0), omega (arith, e.1, length-drop 12 s))
    more (refused k o) h e = tt

pub sums-place : (n prev at : ℕ) (s : List ℕ) (b : ℕ) → sums n prev at s ≡ done b → (b ≡ at + 12 * n) × (12 * n ≤ length s)
sums-place n prev at s b e = rw e at (sums-ends n prev at s)

abbrev BodiesEnd : (at size : ℕ) → Outcome ℕ → Type 0
BodiesEnd at size (done e) = (at ≤ e) × (e ≤ at + size)
BodiesEnd at size (refused k o) = Unit {0}

bodies-ends : (strip : Bool) (n at : ℕ) (s : List ℕ) → BodiesEnd at (length s) (bodies_of strip n at s)
unfolding bodies_of one_body
bodies-ends strip zero at s = (omega arith, omega arith)
bodies-ends strip (suc n) at s =
    let k = 3 + field_len s in
    split (whole (tag_of strip) s)
    (λ w. rw w (more (bodies_of strip n (at + k) (drop k s)) (whole-size (tag_of strip) s w) (bodies-ends strip n (at + k) (drop k s))))
    (λ w. rw w tt)
  where
    more : (r : Outcome ℕ) → 3 + field_len s ≤ length s → BodiesEnd (at + (3 + field_len s)) (length (drop (3 + field_len s) s)) r → BodiesEnd at (length s) r
    more (done e) h p = (omega (arith, p.0), omega (arith, p.1, length-drop (3 + field_len s) s))
    more (refused k o) h p = tt

pub bodies-place : (strip : Bool) (n at : ℕ) (s : List ℕ) (e : ℕ) → bodies_of strip n at s ≡ done e → (at ≤ e) × (e ≤ at + length s)
bodies-place strip n at s e q = rw q at (bodies-ends strip n at s)

-- of all bodies of a list
pub all-place : (n at : ℕ) (s : List ℕ) (e : ℕ) → bodies n at s ≡ done e → (at ≤ e) × (e ≤ at + length s)
unfolding bodies
all-place n at s e q = bodies-place (is_strip s) n at s e q

-- the body in front is whole
pub bodies-whole : (strip : Bool) (n at : ℕ) (s : List ℕ) (e : ℕ) → 0 < n → bodies_of strip n at (drop at s) ≡ done e → whole (tag_of strip) (drop at s) ≡ true
bodies-whole strip n at s e h q =
    split (whole (tag_of strip) (drop at s))
    (λ w. w)
    (λ w. let f : refused 6 at ≡ done e = sym (bodies_missing strip n at s h w) ∙ q in let z : ◌≡◌ {A = ℕ} 0 1 = cc in absurd (omega arith))

-- what a turn over the bodies needs of the body at b, of which the code read the length r
pub record BodyTurn (strip : Bool) (n b r end : ℕ) (s : List ℕ) : Type 0 where
  pub within : b + 3 + r ≤ length s
  pub value : take (b + 3 + r - (b + 3)) (drop (b + 3) s) ≡ field_value (drop b s)
  pub past : b + 3 + r ≡ b + (3 + field_len (drop b s))
  pub rest : bodies_of strip (n - 1) (b + 3 + r) (drop (b + 3 + r) s) ≡ done end

pub body-room : (strip : Bool) (n b end : ℕ) (s : List ℕ) → 0 < n → bodies_of strip n b (drop b s) ≡ done end → b + 3 ≤ length s
body-room strip n b end s h e = omega (arith, whole-size (tag_of strip) (drop b s) (bodies-whole strip n b s end h e), length-drop b s)

pub body-turn : (strip : Bool) (n b r end : ℕ) (s : List ℕ) → 0 < n → r ≡ num 2 (drop (b + 1) s) → bodies_of strip n b (drop b s) ≡ done end → BodyTurn strip n b r end s
body-turn strip n b r end s h q e =
    let w = bodies-whole strip n b s end h e in
    let l : r ≡ field_len (drop b s) = q ∙ sym (len_at s b) in
    let p : b + 3 + r ≡ b + (3 + field_len (drop b s)) = omega arith in
    record {
      within = omega (arith, whole-size (tag_of strip) (drop b s) w, length-drop b s);
      value = value-at s b r l;
      past = p;
      rest = ap (λ (x : ℕ). bodies_of strip (n - 1) x (drop x s)) p ∙ sym (bodies-step strip n b s h w) ∙ e;
    }

-- ---- the list at a place

pub list_headless : (floor at : ℕ) (s : List ℕ) → right_head floor s ≡ false → list floor at s ≡ refused 6 at
unfolding list
list_headless floor at s h = rw h

pub list-parts : (floor at : ℕ) (s : List ℕ) → right_head floor (drop at s) ≡ true →
    list floor at (drop at s)
    ≡ and_then (sums (head_count (drop at s)) 0 (at + 8) (drop (at + 8) s)) (λ b.
    and_then (bodies (head_count (drop at s)) b (drop (at + 8 + 12 * head_count (drop at s)) s)) (λ next. done (listed at next (drop at s))))
unfolding list
list-parts floor at s h =
    let n = head_count (drop at s) in
    let q : at + (8 + 12 * n) ≡ at + 8 + 12 * n = omega arith in
    rw (h, drop-drop 8 at s, drop-drop (8 + 12 * n) at s, q)

-- what the walk knows of a list that begins at a place of the shelf s
pub record Walked (floor : ℕ) (s : List ℕ) (at : ℕ) (l : Listing) : Type 0 where
  pub rise : floor ≤ l.place.term
  pub start : l.place.at ≡ at
  pub ready : Ready s l.place
  pub above : at < l.place.next
  pub within : l.place.next ≤ length s
  pub blocks : l.blocks ≡ blocks_at s at l.place.count

abbrev Walking : ℕ → List ℕ → ℕ → Outcome Listing → Type 0
Walking floor s at (done l) = Walked floor s at l
Walking floor s at (refused n o) = Unit {0}

module _ (floor at : ℕ) (s : List ℕ) (h : right_head floor (drop at s) ≡ true) where
  private_blocks : (next : ℕ) → (listed at next (drop at s)).blocks ≡ blocks_at s at (head_count (drop at s))
  unfolding blocks_at
  private_blocks next =
      let n = head_count (drop at s) in
      let q : at + (8 + 12 * n) ≡ at + 8 + 12 * n = omega arith in
      rw (drop-drop 8 at s, drop-drop (8 + 12 * n) at s, q)

  walking_bodies : (b : ℕ) → b ≡ at + 8 + 12 * head_count (drop at s) → 12 * head_count (drop at s) ≤ length (drop (at + 8) s) → (r : Outcome ℕ) →
      bodies (head_count (drop at s)) b (drop (at + 8 + 12 * head_count (drop at s)) s) ≡ r → Walking floor s at (and_then r (λ next. done (listed at next (drop at s))))
  walking_bodies b q room (refused k o) e = tt
  walking_bodies b q room (done next) e =
      let n = head_count (drop at s) in
      let f : bodies n (at + 8 + 12 * n) (drop (at + 8 + 12 * n) s) ≡ done next = ap (λ (x : ℕ). bodies n x (drop (at + 8 + 12 * n) s)) (sym q) ∙ e in
      let p = all-place n (at + 8 + 12 * n) (drop (at + 8 + 12 * n) s) next f in
      let r8 = head-room floor (drop at s) h in
      let fit : at + 8 + 12 * n ≤ length s = omega (arith, length-drop (at + 8) s, length-drop at s) in
      record {
        rise = (head_facts floor (drop at s) h).0;
        start = refl;
        ready = record { few = (head_facts floor (drop at s) h).1; room = fit; bodied = f };
        above = omega (arith, p.0);
        within = omega (arith, p.1, length-drop (at + 8 + 12 * n) s);
        blocks = private_blocks next;
      }

  walking_sums : (r : Outcome ℕ) → sums (head_count (drop at s)) 0 (at + 8) (drop (at + 8) s) ≡ r →
      Walking floor s at (and_then r (λ b. and_then (bodies (head_count (drop at s)) b (drop (at + 8 + 12 * head_count (drop at s)) s)) (λ next. done (listed at next (drop at s)))))
  walking_sums (refused k o) e = tt
  walking_sums (done b) e =
      let p = sums-place (head_count (drop at s)) 0 (at + 8) (drop (at + 8) s) b e in
      walking_bodies b p.0 p.1 (bodies (head_count (drop at s)) b (drop (at + 8 + 12 * head_count (drop at s)) s)) refl

walking : (floor at : ℕ) (s : List ℕ) → Walking floor s at (list floor at (drop at s))
walking floor at s =
    split (right_head floor (drop at s))
    (λ h. rw (list-parts floor at s h) (walking_sums floor at s h (sums (head_count (drop at s)) 0 (at + 8) (drop (at + 8) s)) refl))
    (λ h. rw (list_headless floor at (drop at s) h) tt)

pub list-walked : (floor at : ℕ) (s : List ℕ) (l : Listing) → list floor at (drop at s) ≡ done l → Walked floor s at l
list-walked floor at s l e = rw e at (walking floor at s)

-- ---- the lists from a place on

none_left : (n floor at : ℕ) → lists n floor at [] ≡ done []
unfolding lists
none_left zero floor at = refl
none_left (suc n) floor at = refl

one_more : (n floor at b : ℕ) (s : List ℕ) → (n ≡ 0 → ⊥) → lists n floor at (b ∷ s)
    ≡ and_then (list floor at (b ∷ s)) (λ l. onto l (lists (n - 1) (l.place.term + 1) l.place.next (drop (l.place.next - at) (b ∷ s))))
unfolding lists
one_more zero floor at b s z = absurd (z refl)
one_more (suc n) floor at b s z = rw sub-one

module _ (n floor at : ℕ) (s : List ℕ) where
  pub lists-none : length s ≤ at → lists n floor at (drop at s) ≡ done []
  lists-none h = rw (rest-none s at h) (none_left n floor at)

  pub lists_full : at < length s → n ≡ 0 → lists n floor at (drop at s) ≡ refused 6 at
  unfolding lists
  lists_full h z = rw (z, rest_cons s at h)

  lists-more : at < length s → (n ≡ 0 → ⊥) → lists n floor at (drop at s)
      ≡ and_then (list floor at (drop at s)) (λ l. onto l (lists (n - 1) (l.place.term + 1) l.place.next (drop (l.place.next - at) (drop at s))))
  lists-more h z = rw (rest_cons s at h) (one_more n floor at (get_or s at 0) (drop (at + 1) s) z)

  pub lists-step : at < length s → (n ≡ 0 → ⊥) → (l : Listing) → list floor at (drop at s) ≡ done l →
      lists n floor at (drop at s) ≡ onto l (lists (n - 1) (l.place.term + 1) l.place.next (drop l.place.next s))
  lists-step h z l e =
      let w = list-walked floor at s l e in
      let q : at + (l.place.next - at) ≡ l.place.next = omega (arith, w.above) in
      rw (lists-more h z, e, drop-drop (l.place.next - at) at s, q)

  pub lists-stop : at < length s → (n ≡ 0 → ⊥) → (k o : ℕ) → list floor at (drop at s) ≡ refused k o → lists n floor at (drop at s) ≡ refused k o
  lists-stop h z k o e = rw (lists-more h z, e)

-- ---- the list at a place, by what its parts were found to be

module _ (floor at : ℕ) (s : List ℕ) where
  pub list_no_head : head_at floor s at ≡ None → placed (list floor at (drop at s)) ≡ refused 6 at
  list_no_head e = rw (list_headless floor at (drop at s) (head_missing floor s at e))

  module _ (t n : ℕ) (e : head_at floor s at ≡ Some (t, n)) where
    parts : list floor at (drop at s)
        ≡ and_then (sums n 0 (at + 8) (drop (at + 8) s)) (λ b. and_then (bodies n b (drop (at + 8 + 12 * n) s)) (λ next. done (listed at next (drop at s))))
    parts = let f = head-found floor s at t n e in rw (list-parts floor at s f.0, f.2)

    pub list_no_sums : (k o : ℕ) → sums n 0 (at + 8) (drop (at + 8) s) ≡ refused k o → placed (list floor at (drop at s)) ≡ refused k o
    list_no_sums k o q = rw (parts, q)

    module _ (b : ℕ) (q : sums n 0 (at + 8) (drop (at + 8) s) ≡ done b) where
      summed : list floor at (drop at s) ≡ and_then (bodies n b (drop b s)) (λ next. done (listed at next (drop at s)))
      summed =
          let r = q in
          let p = sums-place n 0 (at + 8) (drop (at + 8) s) b r in
          rw (parts, r, ← p.0)

      pub list_no_bodies : (k o : ℕ) → bodies n b (drop b s) ≡ refused k o → placed (list floor at (drop at s)) ≡ refused k o
      list_no_bodies k o r = rw (summed, r)

      pub list-whole : (next : ℕ) → bodies n b (drop b s) ≡ done next → placed (list floor at (drop at s)) ≡ done (record { term = t; count = n; at = at; next = next })
      list-whole next r =
          let f = head-found floor s at t n e in
          rw (summed, r, f.1, f.2)
