-- Withdrawing: what is left of a list, and of all lists, in a loop over them. Assumes nothing.
use Prim.Native.Nat.{ℕ, ◌+◌, ◌-◌, ◌≤◌, ◌<◌}
use native.Mathlib.Omega.{arith}
use mathlib.Core.Path.{◌≡◌, refl, sym, ap, subst, ◌∙◌}
use mathlib.Core.List.{List, [], ◌∷◌, ◌++◌}
use mathlib.Core.Bool.{Bool, true, false, false≢true, ◌||◌}
use borrow.Author.Tests.{le-leb, lt-leb, leb-true}
use lib.Dec.{leb}
use lib.ListN.{length, take, drop, length-append, length-drop}
use lib.Seq.{length-take-le}
use Rattle.model.specs.Limits.{max_postings, max_lists, max_shelf}
use Rattle.model.specs.Outcome.{refused, done}
use Rattle.model.specs.Post.{Post, postings, docs, scores}
use Rattle.model.specs.Runs.{has, Stored, Bytes}
use Rattle.model.proofs.Lists.{split, or_false, or_assoc}
use Rattle.model.proofs.Storing.{Rest, rest-start, rest-turn, rest_end, rest-room}
use Rattle.shelf.specs.Walk.{Listing, blocks_at}
use Rattle.shelf.specs.Check.{bad_body, bad_lists, checked}
use Rattle.shelf.specs.Cursor.{start, walk_step, lists_at, listing_at}
use Rattle.shelf.specs.Step as step
use Rattle.shelf.specs.declared.walk.Place.{Place}
use Rattle.shelf.specs.declared.walk.Walk.{Walk}
use Rattle.std.specs.Prelude.{None}
use Rattle.shelf.proofs.Steps.{turn}
use Rattle.shelf.proofs.Sounds.{or_none}
use Rattle.list.specs.Write.{Writable, Words, words_of}
use Rattle.list.specs.Fill.{Filled}
use Rattle.list.proofs.Pours.{right-count}
use Rattle.list.proofs.Shelves.{sound-words}
use Rattle.change.specs.Edits.{Withdraw, clear_post, every}
use Rattle.change.specs.Bytes.{Piece, piece_of, pieces, joined, holds, clear_pieces, changed, some, there, few, settled}
use Rattle.change.specs.Runs.{Clears}
use Rattle.change.specs.Seat.{packed_bytes, fitting, May, Wide}
use Rattle.edit.specs.Left.{posts_at, layout_at, Sought, Sized, left_bytes, LeftOf, Measures}
use Rattle.edit.specs.declared.withdraw.Left.{Left}
use Rattle.change.proofs.Postings.{may-fit, clear-fit, clear-length}
use Rattle.change.proofs.Runnings.{Runs, postings-own, clears_runs}
use Rattle.change.proofs.Pieces.{checked-sound, sound-lists, sound-rises}
use Rattle.change.proofs.Seats.{onward, left-start, first-of, none-left}
use Rattle.edit.proofs.Changes.{rises-few}
use Rattle.edit.proofs.Splices.{settled-none, settled_as, joined-unless, few-unless, length-unless, pieces-length, few-front}
use Rattle.change.proofs.News.{held-taken, held-runs, new-small}
use Rattle.edit.proofs.Sittings.{firsts, runs-postings, runs-may}

-- ---- one list

pub left-sought : {s : List ℕ} {p : Place} {ds ss : List ℕ} → Sized s p ds ss → Sought s p
left-sought z = record { ready = z.fills.ready; right = z.fills.right; rise = z.may.rise }

module _ {s : List ℕ} {p : Place} {n : ℕ} {ds ss d1 s1 : List ℕ} (z : Sized s p ds ss) (f : Filled s p ds ss d1 s1 n) where
  pub left-held : Runs d1 s1 n (posts_at s p)
  left-held = held-runs (held-taken s p ds ss d1 s1 n z.fills f)

  module _ {d m : ℕ} {d2 s2 : List ℕ} (c : Clears d n d1 s1 m d2 s2) where
    pub left-runs : Runs d2 s2 m (clear_post d (posts_at s p))
    left-runs = clears_runs left-held c

    pub left-may : May (firsts m d2) (firsts m s2)
    left-may =
        runs-may d2 s2 m (clear_post d (posts_at s p)) left-runs
        (λ h.
        let g = clear-fit d (posts_at s p) (may-fit (posts_at s p) z.may) h in
        record { some = g.some; few = omega (arith, clear-length d (posts_at s p), z.may.few); rise = g.rise; scores = g.scores; last = g.last })

    pub left-new : (strip : Bool) (t : ℕ) → packed_bytes strip t (postings (firsts m d2) (firsts m s2)) ≡ packed_bytes strip t (clear_post d (posts_at s p))
    left-new strip t = ap (λ (x : List Post). packed_bytes strip t x) (runs-postings d2 s2 m (clear_post d (posts_at s p)) left-runs)

    -- they are packed in the list's own layout
    pub left-anew : (strip : Bool) → strip ≡ layout_at s p → has d (docs (posts_at s p)) ≡ true → packed_bytes strip p.term (postings (firsts m d2) (firsts m s2)) ≡ left_bytes s p d
    left-anew strip e h = rw (e, h) (left-new (layout_at s p) p.term)

module _ (s : List ℕ) (p : Place) (d : ℕ) where
  pub left_as_was : has d (docs (posts_at s p)) ≡ false → left_bytes s p d ≡ take (p.next - p.at) (drop p.at s)
  left_as_was h = rw h

  was_length : p.at ≤ p.next → p.next ≤ length s → length (take (p.next - p.at) (drop p.at s)) ≡ p.next - p.at
  was_length o i = length-take-le (p.next - p.at) (drop p.at s) (omega (arith, length-drop p.at s))

  pub left-none : p.at ≤ p.next → p.next ≤ length s → has d (docs (posts_at s p)) ≡ false → LeftOf s p d (record { bytes = p.next - p.at; held = false })
  left-none o i h = record { bytes = rw h (sym (was_length o i)); held = sym h }

  pub left-some : (r : ℕ) → has d (docs (posts_at s p)) ≡ true → r ≡ length (packed_bytes (layout_at s p) p.term (clear_post d (posts_at s p))) → LeftOf s p d (record { bytes = r; held = true })
  left-some r h e = record { bytes = rw h e; held = sym h }

  pub kept-room : (at room : ℕ) → p.at ≤ p.next → p.next ≤ length s → has d (docs (posts_at s p)) ≡ false → at + length (left_bytes s p d) ≤ room → at + (p.next - p.at) ≤ room
  kept-room at room o i h l = omega (arith, was_length o i, ap length (left_as_was h))

  pub left-small : p.at ≤ p.next → p.next ≤ length s → length (left_bytes s p d) ≤ 45768 + (p.next - p.at)
  left-small o i =
      split (has d (docs (posts_at s p)))
      (λ h.
      let ps = clear_post d (posts_at s p) in
      let l : length (packed_bytes (layout_at s p) p.term ps) ≤ 45768 = rw (postings-own ps) at (new-small (layout_at s p) p.term (docs ps) (scores ps)) in
      rw h (omega arith))
      (λ h. rw h (omega (arith, was_length o i)))

-- ---- the lists that are left

pub record Going (s : List ℕ) (w : Walk) (rest : List Listing) : Type 0 where
  pub left : lists_at s w ≡ done rest
  pub right : bad_lists rest ≡ None
  pub words : Words w.floor (words_of rest)

pub going_start : (s : List ℕ) (ls : List Listing) → Bytes s → checked s ≡ done ls → (w : Walk) → w ≡ start → Going s w ls
unfolding start
going_start s ls b c w e = record { left = left-start s ls c w e; right = (checked-sound s ls c).right; words = rw e (sound-words s ls b c) }

-- the list that was found: its bytes with docid d cleared come first, and the others follow
pub record Goes (s : List ℕ) (d : ℕ) (rest : List Listing) (p : Place) (next : Walk) : Type 0 where
  pub more : List Listing
  pub going : Going s next more
  pub ready : (ds ss : List ℕ) → Wide ds ss → Sized s p ds ss
  pub bytes : joined (clear_pieces every d (pieces s rest)) ≡ left_bytes s p d ++ joined (clear_pieces every d (pieces s more))
  pub seen : some (holds every d) (pieces s rest) ≡ (has d (docs (posts_at s p)) || some (holds every d) (pieces s more))

first-bytes : (s : List ℕ) (d : ℕ) (x : Piece) (p : Place) (xs : List Piece) → x.term ≡ p.term → x.posts ≡ posts_at s p → x.strip ≡ layout_at s p → x.bytes ≡ take (p.next - p.at) (drop p.at s) →
    joined (clear_pieces every d (x ∷ xs)) ≡ left_bytes s p d ++ joined (clear_pieces every d xs)
first-bytes s d x p xs t ps lay bs =
    split (has d (docs (posts_at s p)))
    (λ h.
    let g : has d (docs x.posts) ≡ true = rw ps h in
    rw (g, h, ps, lay, t) (joined-unless (layout_at s p) p.term (clear_post d (posts_at s p)) (clear_pieces every d xs)))
    (λ h.
    let g : has d (docs x.posts) ≡ false = rw ps h in
    rw (g, h, bs))

going_on : (s : List ℕ) (d : ℕ) (w next : Walk) (rest : List Listing) (p : Place) → Going s w rest → walk_step s w ≡ step.List p next → Goes s d rest p next
going_on s d w next rest p g q =
    let m = first-of s w rest g.left p next q in
    let t = turn s w p next q in
    let k = onward s w p next q in
    let bs = blocks_at s p.at p.count in
    let words : Words w.floor (words_of (listing_at s p ∷ m.more)) = rw m.is at g.words in
    let right : bad_lists (listing_at s p ∷ m.more) ≡ None = rw m.is at g.right in
    let o = or_none (bad_body bs) (bad_lists m.more) right in
    let may : Writable (posts_at s p) = words.2 in
    let n = right-count bs o.0 in
    subst (λ (x : List Listing). Goes s d x p next) (sym m.is)
    (record {
      more = m.more;
      going = record { left = m.left; right = o.1; words = subst (λ (x : ℕ). Words x (words_of m.more)) (sym t.above) words.3 };
      ready = λ ds ss v. record {
        fills = record { ready = t.ready; right = o.0; roomy = omega (arith, may.few, v.docids); wide = omega (arith, may.few, v.scored) };
        may = may;
        order = omega (arith, k.some);
        inside = k.within;
      };
      bytes = first-bytes s d (piece_of s (listing_at s p)) p (pieces s m.more) refl refl refl refl;
      seen = refl;
    })

-- ---- adding up

pub record Adding (s : List ℕ) (d : ℕ) (ls : List Listing) (w : Walk) (bytes : ℕ) (held : Bool) : Type 0 where
  pub rest : List Listing
  pub going : Going s w rest
  pub sum : bytes + length (joined (clear_pieces every d (pieces s rest))) ≡ length (joined (clear_pieces every d (pieces s ls)))
  pub seen : (held || some (holds every d) (pieces s rest)) ≡ some (holds every d) (pieces s ls)

pub add_start : (s : List ℕ) (d : ℕ) (ls : List Listing) → Bytes s → checked s ≡ done ls → (w : Walk) → w ≡ start → Adding s d ls w 0 false
add_start s d ls b c w e = record { rest = ls; going = going_start s ls b c w e; sum = omega arith; seen = refl }

module _ (s : List ℕ) (d : ℕ) (ls : List Listing) (w : Walk) (bytes : ℕ) (held : Bool) (c : Adding s d ls w bytes held) where
  pub add-end : walk_step s w ≡ step.End → Measures s d ls (record { bytes = bytes; held = held })
  add-end q =
      let z = none-left s w c.rest c.going.left q in
      record {
        bytes = omega (arith, c.sum, ap (λ (x : List Listing). length (joined (clear_pieces every d (pieces s x)))) z);
        held = sym (or_false held) ∙ ap (λ (x : List Listing). held || some (holds every d) (pieces s x)) (sym z) ∙ c.seen;
      }

  module _ (p : Place) (next : Walk) (q : walk_step s w ≡ step.List p next) where
    pub add_goes : Goes s d c.rest p next
    add_goes = going_on s d w next c.rest p c.going q

    pub add-on : (l : Left) → LeftOf s p d l → Adding s d ls next (bytes + l.bytes) (held || l.held)
    add-on l f =
        let g = add_goes in
        record {
          rest = g.more;
          going = g.going;
          sum = omega (arith, c.sum, ap length g.bytes, length-append (left_bytes s p d) (joined (clear_pieces every d (pieces s g.more))), f.bytes);
          seen = or_assoc held l.held (some (holds every d) (pieces s g.more)) ∙ rw (f.held, ← g.seen) c.seen;
        }

-- ---- writing

pub record Putting (s : List ℕ) (d : ℕ) (ls : List Listing) (l m : List ℕ) (w : Walk) (j : ℕ) : Type 0 where
  pub rest : List Listing
  pub going : Going s w rest
  pub todo : Rest l m 0 j (joined (clear_pieces every d (pieces s ls))) (joined (clear_pieces every d (pieces s rest)))

pub put_start : (s : List ℕ) (d : ℕ) (ls : List Listing) (l : List ℕ) → Bytes s → checked s ≡ done ls → (w : Walk) → w ≡ start → Putting s d ls l l w 0
put_start s d ls l b c w e = record { rest = ls; going = going_start s ls b c w e; todo = rest-start l 0 (joined (clear_pieces every d (pieces s ls))) }

module _ (s : List ℕ) (d : ℕ) (ls : List Listing) (l m : List ℕ) (w : Walk) (j : ℕ) (c : Putting s d ls l m w j) where
  pub put_end : walk_step s w ≡ step.End → Stored l m 0 j (joined (clear_pieces every d (pieces s ls)))
  put_end q = rest_end (ap (λ (x : List Listing). joined (clear_pieces every d (pieces s x))) (none-left s w c.rest c.going.left q)) c.todo

  module _ (p : Place) (next : Walk) (q : walk_step s w ≡ step.List p next) where
    pub put_goes : Goes s d c.rest p next
    put_goes = going_on s d w next c.rest p c.going q

    pub put_room : length (joined (clear_pieces every d (pieces s ls))) ≤ length l → j + length (left_bytes s p d) ≤ length m
    put_room h = rest-room (left_bytes s p d) (joined (clear_pieces every d (pieces s put_goes.more))) put_goes.bytes c.todo (omega arith)

    pub put_on : (o : List ℕ) (r : ℕ) → Stored m o j r (left_bytes s p d) → Putting s d ls l o next r
    put_on o r f = record { rest = put_goes.more; going = put_goes.going; todo = rest-turn (left_bytes s p d) (joined (clear_pieces every d (pieces s put_goes.more))) put_goes.bytes c.todo f }

-- ---- the edit

clear-few : (named : ℕ → Bool) (d : ℕ) (xs : List Piece) → few xs ≡ true → (few (clear_pieces named d xs) ≡ true) × (length (clear_pieces named d xs) ≤ length xs)
clear-few named d [] f = (refl, omega arith)
clear-few named d (x ∷ xs) f =
    let h = few-front (x ∷ []) xs f in
    let ih = clear-few named d xs h.1 in
    split (leb (length x.posts) max_postings)
    (λ t.
    let short : length x.posts ≤ max_postings = leb-true _ _ t in
    split (holds named d x)
    (λ e.
    let qs = clear_post d x.posts in
    rw e (few-unless x.strip x.term qs (clear_pieces named d xs) ih.0 (omega (arith, clear-length d x.posts)), omega (arith, length-unless x.strip x.term qs (clear_pieces named d xs), ih.1)))
    (λ e. rw (e, t) (ih.0, omega (arith, ih.1))))
    (λ t. let z : false ≡ true = rw t at f in absurd (false≢true z))

module _ (s : List ℕ) (ls : List Listing) (b : Bytes s) (e : checked s ≡ done ls) (d room : ℕ) where
  pub withdraw-none : some (holds every d) (pieces s ls) ≡ false → settled (Withdraw d) (pieces s ls) room ≡ refused 12 0
  unfolding there
  withdraw-none h = settled-none (Withdraw d) (pieces s ls) room h

  pub withdraw-some : some (holds every d) (pieces s ls) ≡ true → settled (Withdraw d) (pieces s ls) room ≡ fitting (joined (clear_pieces every d (pieces s ls))) room
  unfolding there changed
  withdraw-some h =
      let f = clear-few every d (pieces s ls) (rises-few 0 (pieces s ls) (sound-rises s ls b e)) in
      let most : length (clear_pieces every d (pieces s ls)) ≤ max_lists = omega (arith, f.1, pieces-length s ls, sound-lists s ls e) in
      settled_as (Withdraw d) (pieces s ls) (clear_pieces every d (pieces s ls)) room (joined (clear_pieces every d (pieces s ls))) true h refl
      (rw (f.0, le-leb (length (clear_pieces every d (pieces s ls))) 1024 most)) refl

module _ (v : List ℕ) (room : ℕ) where
  pub fit_large : max_shelf < length v → fitting v room ≡ refused 11 0
  fit_large h = rw (lt-leb (length v) 1048576 h)

  pub fit_tight : length v ≤ max_shelf → room < length v → fitting v room ≡ refused 9 0
  fit_tight h l = rw (le-leb (length v) 1048576 h, lt-leb (length v) room l)

  pub fit-done : length v ≤ max_shelf → length v ≤ room → fitting v room ≡ done v
  fit-done h l = rw (le-leb (length v) 1048576 h, le-leb (length v) room l)
