-- A sound shelf is pieces that stand by themselves, in rising term number; and such pieces, joined, are a sound shelf. Assumes nothing.
use Prim.Native.Nat.{ℕ, zero, suc, ◌+◌, ◌-◌, ◌^◌, ◌≤◌, ◌<◌}
use native.Mathlib.Omega.{arith}
use mathlib.Core.Path.{◌≡◌, refl, sym, ap, ◌∙◌}
use mathlib.Core.Bool.{Bool}
use mathlib.Core.List.{List, [], ◌∷◌, ◌++◌}
use borrow.Author.Tests.{ltb-true, ltb-false, le-leb}
use lib.Dec.{ltb}
use lib.ListN.{length, take, drop, length-append, length-drop, take-append-drop}
use lib.Seq.{take_at, drop_at, drop-drop}
use Rattle.model.specs.Limits.{max_lists, max_shelf}
use Rattle.model.specs.Outcome.{Outcome, refused, done}
use Rattle.model.specs.Post.{Post}
use Rattle.model.specs.Runs.{Bytes}
use Rattle.model.proofs.Lists.{split, bytes_drop, rest-none}
use Rattle.shelf.specs.Walk.{Listing, list, onto, lists, walk, posts_of, strip_of}
use Rattle.shelf.specs.Check.{bad_body, bad_lists, checked, judged}
use Rattle.std.specs.Prelude.{None}
use Rattle.shelf.proofs.Walks.{list-walked, lists-none, lists_full, lists-step, lists-stop}
use Rattle.shelf.proofs.Sounds.{or_none, sound-walk}
use Rattle.lookup.proofs.Stands.{walk-size, walk-lists}
use Rattle.list.specs.Write.{Word, Writable, Words, word_of, words_of}
use Rattle.list.proofs.Shelves.{sound-words}
use Rattle.list.proofs.Pieces.{ReadsAt, Stands, packed_stands, copied_stands}
use Rattle.change.specs.Bytes.{Piece, piece_of, pieces, joined, contents, anew}

-- ---- a piece that stands by itself

-- its bytes are read as it wherever they stand, and its postings may be written
pub record Standing (x : Piece) : Type 0 where
  pub stands : Stands x.strip x.term x.posts x.bytes
  pub small : x.term < 2 ^ 32
  pub may : Writable x.posts

abbrev pub Rises : ℕ → List Piece → Type 0
Rises floor [] = Unit {0}
Rises floor (x ∷ xs) = (floor ≤ x.term) × Standing x × Rises (x.term + 1) xs

-- the writer's pieces
pub anew_stands : (strip : Bool) (t : ℕ) (ps : List Post) → t < 2 ^ 32 → Writable ps → Standing (anew strip t ps)
anew_stands strip t ps small w = record { stands = packed_stands strip t ps small w; small = small; may = w }

-- the pieces of a sound shelf
kept_stands : (floor at : ℕ) (s : List ℕ) (l : Listing) → Bytes s → list floor at (drop at s) ≡ done l → bad_body l.blocks ≡ None → l.place.term < 2 ^ 32 → Writable (posts_of l.blocks) →
    Standing (piece_of s l)
kept_stands floor at s l h e r small may =
    let here : take (l.place.next - l.place.at) (drop l.place.at s) ≡ take (l.place.next - at) (drop at s) = rw (list-walked floor at s l e).start in
    record { stands = rw here (copied_stands floor at (drop at s) l (bytes_drop at s h) e r); small = small; may = may }

-- ---- the lists from a place on, from the first

onto-done : (l : Listing) (r : Outcome (List Listing)) (m : Listing) (ms : List Listing) → onto l r ≡ done (m ∷ ms) → (r ≡ done ms) × (l ≡ m)
onto-done l (refused n o) m ms e = let z : ◌≡◌ {A = ℕ} 0 1 = cc in absurd (omega arith)
onto-done l (done ls) m ms e = let f : ls ≡ ms = cc in (rw f, (cc))

onto-some : (l : Listing) (r : Outcome (List Listing)) → onto l r ≡ done [] → ⊥
onto-some l (refused n o) e = let z : ◌≡◌ {A = ℕ} 0 1 = cc in omega arith
onto-some l (done ls) e = let z : ◌≡◌ {A = ℕ} 0 1 = cc in omega arith

module _ (n floor at : ℕ) (s : List ℕ) (ls : List Listing) (e : lists n floor at (drop at s) ≡ done ls) (lt : at < length s) where
  more_left : n ≡ 0 → ⊥
  more_left z = let f : refused 6 at ≡ done ls = sym (lists_full n floor at s lt z) ∙ e in let q : ◌≡◌ {A = ℕ} 0 1 = cc in omega arith

  pub not_stopped : (k o : ℕ) → list floor at (drop at s) ≡ refused k o → ⊥
  not_stopped k o q = let f : refused k o ≡ done ls = sym (lists-stop n floor at s lt more_left k o q) ∙ e in let z : ◌≡◌ {A = ℕ} 0 1 = cc in omega arith

  stepped : (l : Listing) → list floor at (drop at s) ≡ done l → onto l (lists (n - 1) (l.place.term + 1) l.place.next (drop l.place.next s)) ≡ done ls
  stepped l q = sym (lists-step n floor at s lt more_left l q) ∙ e

pub lists_nil : (n floor at : ℕ) (s : List ℕ) → lists n floor at (drop at s) ≡ done [] → length s ≤ at
lists_nil n floor at s e =
    split (ltb at (length s))
    (λ t. let lt = ltb-true at (length s) t in go lt (list floor at (drop at s)) refl)
    (λ t. ltb-false at (length s) t)
  where
    go : at < length s → (r : Outcome Listing) → list floor at (drop at s) ≡ r → length s ≤ at
    go lt (refused k o) q = absurd (not_stopped n floor at s [] e lt k o q)
    go lt (done l) q = absurd (onto-some l (lists (n - 1) (l.place.term + 1) l.place.next (drop l.place.next s)) (stepped n floor at s [] e lt l q))

-- the first of some lists, and those after it
pub record Next (n floor at : ℕ) (s : List ℕ) (l : Listing) (ms : List Listing) : Type 0 where
  pub inside : at < length s
  pub reads : list floor at (drop at s) ≡ done l
  pub left : lists (n - 1) (l.place.term + 1) l.place.next (drop l.place.next s) ≡ done ms

pub lists_inv : (n floor at : ℕ) (s : List ℕ) (l : Listing) (ms : List Listing) → lists n floor at (drop at s) ≡ done (l ∷ ms) → Next n floor at s l ms
lists_inv n floor at s l ms e =
    split (ltb at (length s))
    (λ t. let lt = ltb-true at (length s) t in go lt (list floor at (drop at s)) refl)
    (λ t.
    let f : done [] ≡ done (l ∷ ms) = sym (lists-none n floor at s (ltb-false at (length s) t)) ∙ e in
    let z : ◌≡◌ {A = ℕ} 0 1 = cc in absurd (omega arith))
  where
    go : at < length s → (r : Outcome Listing) → list floor at (drop at s) ≡ r → Next n floor at s l ms
    go lt (refused k o) q = absurd (not_stopped n floor at s (l ∷ ms) e lt k o q)
    go lt (done m) q =
        let o = onto-done m (lists (n - 1) (m.place.term + 1) m.place.next (drop m.place.next s)) l ms (stepped n floor at s (l ∷ ms) e lt m q) in
        record { inside = lt; reads = q ∙ ap done o.1; left = ap (λ (x : Listing). lists (n - 1) (x.place.term + 1) x.place.next (drop x.place.next s)) (sym o.1) ∙ o.0 }

-- ---- all of them

-- the pieces are the bytes
pub pieces-joined : (n floor at : ℕ) (s : List ℕ) (ls : List Listing) → lists n floor at (drop at s) ≡ done ls → joined (pieces s ls) ≡ drop at s
pieces-joined n floor at s [] e = sym (rest-none s at (lists_nil n floor at s e))
pieces-joined n floor at s (l ∷ ms) e =
    let i = lists_inv n floor at s l ms e in
    let w = list-walked floor at s l i.reads in
    let k = l.place.next - at in
    let q : at + k ≡ l.place.next = omega (arith, w.above) in
    let past : drop k (drop at s) ≡ drop l.place.next s = rw (drop-drop k at s, q) in
    rw (w.start, pieces-joined (n - 1) (l.place.term + 1) l.place.next s ms i.left, ← past) (take-append-drop k (drop at s))

pieces-rise : (n floor at : ℕ) (s : List ℕ) (ls : List Listing) → Bytes s → lists n floor at (drop at s) ≡ done ls → bad_lists ls ≡ None → Words floor (words_of ls) → Rises floor (pieces s ls)
pieces-rise n floor at s [] h e b g = tt
pieces-rise n floor at s (l ∷ ms) h e b g =
    let i = lists_inv n floor at s l ms e in
    let o = or_none (bad_body l.blocks) (bad_lists ms) b in
    (g.0, kept_stands floor at s l h i.reads o.0 g.1 g.2, pieces-rise (n - 1) (l.place.term + 1) l.place.next s ms h i.left o.1 g.3)

-- no more lists than may come
lists-most : (n floor at : ℕ) (s : List ℕ) (ls : List Listing) → lists n floor at (drop at s) ≡ done ls → length ls ≤ n
lists-most n floor at s [] e = omega arith
lists-most n floor at s (l ∷ ms) e =
    let i = lists_inv n floor at s l ms e in
    omega (arith, lists-most (n - 1) (l.place.term + 1) l.place.next s ms i.left, more_left n floor at s (l ∷ ms) e i.inside)

-- ---- what the checker found

-- a shelf in which the checker finds nothing has lists
pub judged-lists : (r : Outcome (List Listing)) → judged r ≡ done tt → (ls : List Listing) × (r ≡ done ls)
judged-lists (refused n o) e = let z : ◌≡◌ {A = ℕ} 0 1 = cc in absurd (omega arith)
judged-lists (done ls) e = (ls, refl)

-- its pieces hold what its lists hold
pub pieces_hold : (s : List ℕ) (ls : List Listing) → contents (pieces s ls) ≡ words_of ls
pieces_hold s [] = refl
pieces_hold s (l ∷ ms) = ap {B = List Word} (λ ws. word_of l ∷ ws) (pieces_hold s ms)

pub record Sound (s : List ℕ) (ls : List Listing) : Type 0 where
  pub short : length s ≤ max_shelf
  pub reads : lists max_lists 0 0 s ≡ done ls
  pub right : bad_lists ls ≡ None

pub checked-sound : (s : List ℕ) (ls : List Listing) → checked s ≡ done ls → Sound s ls
checked-sound s ls e =
    let w = sound-walk s ls e in
    record { short = walk-size s ls w.0; reads = walk-lists s ls w.0; right = w.1 }

pub sound-checked : (s : List ℕ) (ls : List Listing) → Sound s ls → checked s ≡ done ls
unfolding checked walk
sound-checked s ls o = rw (le-leb (length s) 1048576 o.short, o.reads, o.right)

pub sound-lists : (s : List ℕ) (ls : List Listing) → checked s ≡ done ls → length ls ≤ max_lists
sound-lists s ls e = lists-most 1024 0 0 s ls (checked-sound s ls e).reads

-- a sound shelf is pieces that stand
pub sound-rises : (s : List ℕ) (ls : List Listing) → Bytes s → checked s ≡ done ls → Rises 0 (pieces s ls)
sound-rises s ls h e =
    let o = checked-sound s ls e in
    pieces-rise 1024 0 0 s ls h o.reads o.right (sound-words s ls h e)

-- ---- and pieces that stand, joined, are a sound shelf

piece_is : (x : Piece) (t : ℕ) (ps : List Post) (strip : Bool) (bs : List ℕ) → t ≡ x.term → ps ≡ x.posts → strip ≡ x.strip → bs ≡ x.bytes →
    ◌≡◌ {A = Piece} (record { term = t; posts = ps; strip = strip; bytes = bs }) x
piece_is x t ps strip bs e f g h = rw (e, f, g, h)

-- the lists that are read, and that they are the pieces
pub record Found (n floor at : ℕ) (s : List ℕ) (xs : List Piece) : Type 0 where
  pub found : List Listing
  pub reads : lists n floor at (drop at s) ≡ done found
  pub right : bad_lists found ≡ None
  pub same : pieces s found ≡ xs

found_cons : (n floor at : ℕ) (s : List ℕ) (x : Piece) (xs : List Piece) → drop at s ≡ x.bytes ++ joined xs → Standing x → (r : ReadsAt x.strip x.term x.posts x.bytes floor at (joined xs)) →
    Found n (x.term + 1) (at + length x.bytes) s xs → Found (suc n) floor at s (x ∷ xs)
found_cons n floor at s x xs d w r f =
    let l = r.found in
    let e : list floor at (drop at s) ≡ done l = rw d r.reads in
    let lt : at < length s = omega (arith, length-drop at s, ap length d, length-append x.bytes (joined xs), w.stands.size) in
    let m : suc n - 1 ≡ n = omega arith in
    let step : lists (suc n) floor at (drop at s) ≡ onto l (lists n (l.place.term + 1) l.place.next (drop l.place.next s)) =
    rw m at (lists-step (suc n) floor at s lt (λ (z : suc n ≡ 0). omega arith) l e) in
    let rest : lists n (l.place.term + 1) l.place.next (drop l.place.next s) ≡ done f.found = rw (r.term, r.next) f.reads in
    let k : l.place.next - l.place.at ≡ length x.bytes = omega (arith, r.start, r.next) in
    let own : take (l.place.next - l.place.at) (drop l.place.at s) ≡ x.bytes = rw (k, r.start, d) (take_at x.bytes (joined xs) (length x.bytes) refl) in
    record {
      found = l ∷ f.found;
      reads = step ∙ ap (λ (o : Outcome (List Listing)). onto l o) rest;
      right = rw r.right f.right;
      same = ap {B = List Piece} (λ (y : Piece). y ∷ pieces s f.found) (piece_is x l.place.term (posts_of l.blocks) (strip_of l.blocks) (take (l.place.next - l.place.at) (drop l.place.at s)) r.term r.posts r.layout own)
          ∙ ap {B = List Piece} (λ (ys : List Piece). x ∷ ys) f.same;
    }

found_all : (n floor at : ℕ) (s : List ℕ) (xs : List Piece) → drop at s ≡ joined xs → length xs ≤ n → Rises floor xs → Found n floor at s xs
found_all n floor at s [] d h r =
    let none : length s ≤ at = omega (arith, length-drop at s, ap length d) in
    record { found = []; reads = lists-none n floor at s none; right = refl; same = refl }
found_all zero floor at s (x ∷ xs) d h r = absurd (omega arith)
found_all (suc n) floor at s (x ∷ xs) d h r =
    let past : drop (at + length x.bytes) s ≡ joined xs =
    sym (drop-drop (length x.bytes) at s) ∙ ap {B = List ℕ} (λ t. drop (length x.bytes) t) d ∙ drop_at x.bytes (joined xs) (length x.bytes) refl in
    found_cons n floor at s x xs d r.1 (r.1.stands.reads floor at (joined xs) r.0) (found_all n (x.term + 1) (at + length x.bytes) s xs past (omega arith) r.2)

pub standing_sound : (v : List ℕ) (xs : List Piece) → joined xs ≡ v → Rises 0 xs → length xs ≤ max_lists → length v ≤ max_shelf →
    (ls : List Listing) × (checked v ≡ done ls) × (pieces v ls ≡ xs)
standing_sound v xs e r few small =
    let f = found_all 1024 0 0 v xs (sym e) few r in
    (f.found, sound-checked v f.found (record { short = small; reads = f.reads; right = f.right }), f.same)
