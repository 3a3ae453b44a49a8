-- What the lists of a sound shelf hold: terms rise, and the postings of each list rise with scores in range. Assumes nothing.
use Prim.Native.Nat.{ℕ, zero, suc, ◌+◌, ◌*◌, ◌-◌, ◌≤◌, ◌<◌}
use native.Mathlib.Omega.{arith}
use mathlib.Core.Path.{◌≡◌, refl, ap, ◌∙◌}
use mathlib.Core.List.{List, [], ◌∷◌}
use mathlib.Core.Bool.{true, false}
use lib.Dec.{leb}
use lib.ListN.{length, drop}
use Rattle.model.specs.Outcome.{Outcome, refused, done, and_then}
use Rattle.model.specs.Post.{Post, Rising, Scored, last_doc}
use Rattle.model.specs.Runs.{Bytes}
use Rattle.model.proofs.Lists.{split, All_append, bytes_drop, bytes_take}
use Rattle.model.proofs.Posts.{rising-join, last_any}
use Rattle.wire.specs.Field.{field_len, field_value}
use Rattle.block.specs.Summary.{is_sum, sum_of, right_sum}
use Rattle.block.specs.Body.{is_strip, right_body}
use Rattle.block.proofs.Summaries.{right_facts}
use Rattle.block.proofs.Contents.{right-body}
use Rattle.shelf.specs.Walk.{Block, Listing, posts_of, head_term, head_count, right_head, one_sum, sums, bodies, blocks_of, listed, list, onto, lists, walk}
use Rattle.shelf.specs.Check.{bad_body, or_else, bad_lists, verdict, checked}
use Rattle.shelf.proofs.Walks.{any_strip, any_greatest, head_facts}
use Rattle.std.specs.Prelude.{Option}
use Rattle.std.specs.Prelude.{Some, None}

-- each block's summary is right after the block before it, and its body is right for it
abbrev pub Good : ℕ → List Block → Type 0
Good prev [] = Unit {0}
Good prev (b ∷ bs) = (right_sum prev b.sum ≡ true) × (right_body b.sum b.body ≡ true) × Bytes b.body × Good b.sum.greatest bs

bytes-value : (s : List ℕ) → Bytes s → Bytes (field_value s)
unfolding field_value
bytes-value s h = bytes_take (field_len s) (drop 3 s) (bytes_drop 3 s h)

sums-good : (n prev a b e : ℕ) (m s : List ℕ) → Bytes s → sums n prev a m ≡ done e → bad_body (blocks_of n a m b s) ≡ None → Good prev (blocks_of n a m b s)
unfolding sums one_sum blocks_of
sums-good zero prev a b e m s h q f = tt
sums-good (suc n) prev a b e m s h q f =
    let k = 3 + field_len s in
    let x = sum_of (is_strip s) m in
    split (is_sum m)
    (λ i. split (right_sum prev (sum_of false m))
    (λ r. split (right_body x (field_value s))
    (λ w.
    let q1 : sums n (sum_of false m).greatest (a + 12) (drop 12 m) ≡ done e = rw (i, r) at q in
    let f1 : bad_body (blocks_of n (a + 12) (drop 12 m) (b + k) (drop k s)) ≡ None = rw w at f in
    (any_strip (is_strip s) prev m ∙ r, w, bytes-value s h, rw (any_greatest (is_strip s) m) (sums-good n (sum_of false m).greatest (a + 12) (b + k) e (drop 12 m) (drop k s) (bytes_drop k s h) q1 f1)))
    (λ w. let g : Some b ≡ None = rw w at f in let z : ◌≡◌ {A = ℕ} 0 1 = cc in absurd (omega arith)))
    (λ r. let g : refused 7 a ≡ done e = rw (i, r) at q in let z : ◌≡◌ {A = ℕ} 0 1 = cc in absurd (omega arith)))
    (λ i. let g : refused 6 a ≡ done e = rw i at q in let z : ◌≡◌ {A = ℕ} 0 1 = cc in absurd (omega arith))

-- ---- a list

abbrev GoodIf : (floor : ℕ) → Outcome Listing → Type 0
GoodIf floor (refused n o) = Unit {0}
GoodIf floor (done l) = (floor ≤ l.place.term) × (bad_body l.blocks ≡ None → Good 0 l.blocks)

list-good : (floor at : ℕ) (s : List ℕ) → Bytes s → GoodIf floor (list floor at s)
unfolding list
list-good floor at s h =
    split (right_head floor s)
    (λ r. rw r (on_sums (head_facts floor s r).0 (sums (head_count s) 0 (at + 8) (drop 8 s)) refl))
    (λ r. rw r tt)
  where
    on_bodies : (b : ℕ) → floor ≤ head_term s → sums (head_count s) 0 (at + 8) (drop 8 s) ≡ done b → (r : Outcome ℕ) → GoodIf floor (and_then r (λ next. done (listed at next s)))
    on_bodies b l e (refused n o) = tt
    on_bodies b l e (done next) =
        (l, λ f. sums-good (head_count s) 0 (at + 8) (at + 8 + 12 * head_count s) b (drop 8 s) (drop (8 + 12 * head_count s) s) (bytes_drop (8 + 12 * head_count s) s h) e f)

    on_sums : floor ≤ head_term s → (r : Outcome ℕ) → sums (head_count s) 0 (at + 8) (drop 8 s) ≡ r →
        GoodIf floor (and_then r (λ b. and_then (bodies (head_count s) b (drop (8 + 12 * head_count s) s)) (λ next. done (listed at next s))))
    on_sums l (refused n o) e = tt
    on_sums l (done b) e = on_bodies b l e (bodies (head_count s) b (drop (8 + 12 * head_count s) s))

-- ---- its postings

pub good-posts : (prev : ℕ) (bs : List Block) → Good prev bs → Rising prev (posts_of bs) × Scored (posts_of bs)
good-posts prev [] g = (tt, tt)
good-posts prev (b ∷ bs) g =
    let f = right_facts prev b.sum g.0 in
    let r = right-body b.sum b.body g.2 f.some g.1 in
    let ps = r.posts in
    let some : 0 < length ps = omega (arith, r.whole.count, f.some) in
    let last : last_doc prev ps ≡ b.sum.greatest = last_any prev 0 ps some ∙ r.last in
    let ih = good-posts b.sum.greatest bs g.3 in
    rw r.reads
    (rising-join prev ps (posts_of bs) (r.whole.rise prev f.above) (rw last ih.0), All_append (λ (p : Post). (0 < p.score) × (p.score ≤ 65535)) ps (posts_of bs) r.whole.scores ih.1)

-- ---- the lists of a sound shelf

abbrev pub Listed : ℕ → List Listing → Type 0
Listed floor [] = Unit {0}
Listed floor (l ∷ ls) = (floor ≤ l.place.term) × Good 0 l.blocks × Listed (l.place.term + 1) ls

abbrev ListedIf : ℕ → Outcome (List Listing) → Type 0
ListedIf floor (refused n o) = Unit {0}
ListedIf floor (done ls) = bad_lists ls ≡ None → Listed floor ls

pub or_none : (x y : Option ℕ) → or_else x y ≡ None → (x ≡ None) × (y ≡ None)
or_none (Some o) y e = let z : ◌≡◌ {A = ℕ} 0 1 = cc in absurd (omega arith)
or_none None y e = (refl, e)

listed_cons : (floor : ℕ) (l : Listing) (r : Outcome (List Listing)) → GoodIf floor (done l) → ListedIf (l.place.term + 1) r → ListedIf floor (onto l r)
listed_cons floor l (refused n o) g h = tt
listed_cons floor l (done ls) g h =
    λ e.
    let b = or_none (bad_body l.blocks) (bad_lists ls) e in
    (g.0, g.1 b.0, h b.1)

lists-good : (n floor at : ℕ) (s : List ℕ) → Bytes s → ListedIf floor (lists n floor at s)
unfolding lists
lists-good zero floor at [] h = λ e. tt
lists-good zero floor at (b ∷ s) h = tt
lists-good (suc n) floor at [] h = λ e. tt
lists-good (suc n) floor at (b ∷ s) h =
    go (list floor at (b ∷ s)) (list-good floor at (b ∷ s) h)
    (λ t next. lists-good n t next (drop (next - at) (b ∷ s)) (bytes_drop (next - at) (b ∷ s) h))
  where
    go : (r : Outcome Listing) → GoodIf floor r → ((t next : ℕ) → ListedIf t (lists n t next (drop (next - at) (b ∷ s)))) →
        ListedIf floor (and_then r (λ l. onto l (lists n (l.place.term + 1) l.place.next (drop (l.place.next - at) (b ∷ s)))))
    go (refused k o) g ih = tt
    go (done l) g ih = listed_cons floor l (lists n (l.place.term + 1) l.place.next (drop (l.place.next - at) (b ∷ s))) g (ih (l.place.term + 1) l.place.next)

walk-good : (s : List ℕ) → Bytes s → ListedIf 0 (walk s)
unfolding walk
walk-good s h = split (leb (length s) 1048576) (λ e. rw e (lists-good 1024 0 0 s h)) (λ e. rw e tt)

verdict-done : (ls ms : List Listing) (x : Option ℕ) → verdict ls x ≡ done ms → (x ≡ None) × (ls ≡ ms)
verdict-done ls ms (Some o) e = let z : ◌≡◌ {A = ℕ} 0 1 = cc in absurd (omega arith)
verdict-done ls ms None e = (refl, (cc))

-- a sound shelf was walked to its end, and no body is wrong
pub sound-walk : (s : List ℕ) (ls : List Listing) → checked s ≡ done ls → (walk s ≡ done ls) × (bad_lists ls ≡ None)
unfolding checked
sound-walk s ls e = go (walk s) refl e
  where
    go : (r : Outcome (List Listing)) → walk s ≡ r → and_then r (λ ms. verdict ms (bad_lists ms)) ≡ done ls → (walk s ≡ done ls) × (bad_lists ls ≡ None)
    go (refused n o) w q = let z : ◌≡◌ {A = ℕ} 0 1 = cc in absurd (omega arith)
    go (done ms) w q = let v = verdict-done ms ls (bad_lists ms) q in (w ∙ ap done v.1, rw v.1 at v.0)

-- every list of it is good, in rising term number
pub sound-good : (s : List ℕ) (ls : List Listing) → Bytes s → checked s ≡ done ls → Listed 0 ls
sound-good s ls h e =
    let w = sound-walk s ls e in
    let good : bad_lists ls ≡ None → Listed 0 ls = rw w.0 at (walk-good s h) in
    good w.1
