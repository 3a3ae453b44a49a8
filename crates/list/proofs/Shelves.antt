-- Whole shelves: one writing is sound and holds just its postings, a sound shelf's lists may be written, and a packed sound shelf is its own writing.
-- Assumes nothing.
use Prim.Native.Nat.{ℕ, zero, suc, ◌+◌, ◌-◌, ◌≤◌}
use mathlib.Core.Path.{◌≡◌, refl, ap}
use mathlib.Core.List.{List, [], ◌∷◌}
use lib.ListN.{length, drop}
use Rattle.model.specs.Limits.{max_lists, max_shelf}
use Rattle.model.specs.Outcome.{Outcome, refused, done, and_then}
use Rattle.model.specs.Runs.{All, Bytes}
use Rattle.model.proofs.Lists.{bytes_drop}
use Rattle.shelf.specs.Walk.{Listing, list, onto, lists}
use Rattle.shelf.specs.Check.{bad_body, bad_lists, checked}
use Rattle.std.specs.Prelude.{None}
use Rattle.shelf.proofs.Sounds.{or_none, sound-walk}
use Rattle.lookup.proofs.Stands.{walk-lists}
use Rattle.list.specs.Write.{list_bytes, Word, writing, Words, words_of, Full}
use Rattle.list.proofs.Writes.{written_from, written-posts, written-strip, written-sound}
use Rattle.list.proofs.Canonical.{list-only}
use Rattle.list.proofs.WritesBack.{read_writable, packed_writes_back}

-- ---- a writing

words-written : (floor at : ℕ) (ws : List Word) → Words floor ws → words_of (written_from at ws) ≡ ws
words-written floor at [] ok = refl
words-written floor at (w ∷ ws) ok =
    let p = written-posts w.strip w.term at w.posts ok.2 in
    let q = written-strip w.strip w.term at w.posts ok.2 in
    let r = words-written (w.term + 1) (at + length (list_bytes w.strip w.term w.posts)) ws ok.3 in
    λ i. record { term = w.term; posts = p i; strip = q i } ∷ r i

-- "One writing of a shelf is the writer's lists in rising term number": it is sound, and its lists hold just the postings that were written
pub writing-holds : (ws : List Word) → Words 0 ws → length ws ≤ max_lists → length (writing ws) ≤ max_shelf →
    and_then (checked (writing ws)) (λ ls. done (words_of ls)) ≡ done ws
writing-holds ws ok few small = rw (written-sound ws ok few small) (ap done (words-written 0 0 ws ok))

-- ---- a sound shelf

abbrev Packed : List Listing → Type 0
Packed ls = All (λ (l : Listing). Full l.blocks) ls

-- what is known of the lists that make up the bytes s
record Whole (floor : ℕ) (s : List ℕ) (ls : List Listing) : Type 0 where
  words : Words floor (words_of ls)
  bytes : Packed ls → writing (words_of ls) ≡ s

abbrev WholeIf : ℕ → List ℕ → Outcome (List Listing) → Type 0
WholeIf floor s (refused n o) = Unit {0}
WholeIf floor s (done ls) = bad_lists ls ≡ None → Whole floor s ls

whole-none : (floor : ℕ) → Whole floor [] []
unfolding writing
whole-none floor = record { words = tt; bytes = λ p. refl }

whole_cons : (floor at : ℕ) (s : List ℕ) (l : Listing) (ls : List Listing) → Bytes s → list floor at s ≡ done l → bad_body l.blocks ≡ None →
    Whole (l.place.term + 1) (drop (l.place.next - at) s) ls → Whole floor s (l ∷ ls)
unfolding writing
whole_cons floor at s l ls h e f w =
    let r = list-only floor at s l h e f in
    record {
      words = (r.above, r.small, read_writable floor at s l h e f, w.words);
      bytes = λ p. rw (w.bytes p.1) (packed_writes_back floor at s l h e f p.0);
    }

whole_if : (n floor at : ℕ) (s : List ℕ) → Bytes s → WholeIf floor s (lists n floor at s)
unfolding lists
whole_if zero floor at [] h = λ f. whole-none floor
whole_if zero floor at (b ∷ s) h = tt
whole_if (suc n) floor at [] h = λ f. whole-none floor
whole_if (suc n) floor at (b ∷ s) h =
    go (list floor at (b ∷ s)) refl
    (λ l. whole_if n (l.place.term + 1) l.place.next (drop (l.place.next - at) (b ∷ s)) (bytes_drop (l.place.next - at) (b ∷ s) h))
  where
    more : (l : Listing) → list floor at (b ∷ s) ≡ done l → (r : Outcome (List Listing)) → WholeIf (l.place.term + 1) (drop (l.place.next - at) (b ∷ s)) r → WholeIf floor (b ∷ s) (onto l r)
    more l e (refused k o) w = tt
    more l e (done ls) w = λ f. let g = or_none (bad_body l.blocks) (bad_lists ls) f in whole_cons floor at (b ∷ s) l ls h e g.0 (w g.1)

    go : (r : Outcome Listing) → list floor at (b ∷ s) ≡ r →
        ((l : Listing) → WholeIf (l.place.term + 1) (drop (l.place.next - at) (b ∷ s)) (lists n (l.place.term + 1) l.place.next (drop (l.place.next - at) (b ∷ s)))) →
        WholeIf floor (b ∷ s) (and_then r (λ l. onto l (lists n (l.place.term + 1) l.place.next (drop (l.place.next - at) (b ∷ s)))))
    go (refused k o) e ih = tt
    go (done l) e ih = more l e (lists n (l.place.term + 1) l.place.next (drop (l.place.next - at) (b ∷ s))) (ih l)

module _ (s : List ℕ) (ls : List Listing) (h : Bytes s) (e : checked s ≡ done ls) where
  sound : Whole 0 s ls
  sound =
      let w = sound-walk s ls e in
      let whole : bad_lists ls ≡ None → Whole 0 s ls = rw (walk-lists s ls w.0) at (whole_if max_lists 0 0 s h) in
      whole w.1

  -- the lists of a sound shelf may be written
  pub sound-words : Words 0 (words_of ls)
  sound-words = sound.words

  -- and a sound shelf whose lists are packed is the one writing of what it holds
  pub packed-shelf : All (λ (l : Listing). Full l.blocks) ls → writing (words_of ls) ≡ s
  packed-shelf p = sound.bytes p
