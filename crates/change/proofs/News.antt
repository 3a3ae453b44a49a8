-- A list read into two runs, and a list packed anew from two runs, or none. Assumes nothing.
use Prim.Native.Nat.{ℕ, zero, suc, ◌+◌, ◌-◌, ◌*◌, ◌≤◌, ◌<◌}
use native.Mathlib.Omega.{arith}
use mathlib.Core.Path.{◌≡◌, refl, sym}
use mathlib.Core.Bool.{Bool}
use mathlib.Core.List.{List, [], ◌∷◌, ◌++◌}
use borrow.Author.Tests.{le-leb, lt-leb}
use lib.ListN.{length, take, drop, length-append, length-drop}
use lib.Seq.{length-take-le}
use Rattle.model.specs.Limits.{max_postings, max_lists, max_shelf}
use Rattle.model.specs.Outcome.{refused, done}
use Rattle.model.specs.Post.{Post, postings, docs, scores}
use Rattle.model.specs.Runs.{Stored}
use Rattle.model.proofs.Lists.{map-length}
use Rattle.model.proofs.Posts.{count_of}
use Rattle.model.proofs.Storing.{stored-append, stored_as, stored-holds, part_end}
use Rattle.block.specs.Summary.{sum_of}
use Rattle.block.specs.Body.{is_strip}
use Rattle.shelf.specs.Walk.{posts_of, strip_of, blocks_of, blocks_at}
use Rattle.shelf.specs.declared.walk.Place.{Place}
use Rattle.list.specs.Write.{list_bytes, Paired}
use Rattle.list.specs.Fill.{Fillable, Filled}
use Rattle.list.proofs.Pours.{right-count}
use Rattle.list.proofs.Packing.{list-size, size_small}
use Rattle.change.proofs.Copies.{up_to}
use Rattle.change.proofs.Runnings.{Runs, holds-runs}
use Rattle.change.specs.Seat.{Held, held_by, strip_by, Stood, packed_bytes, spliced, fitting, May, placed}
use Rattle.change.specs.declared.seat.Seat.{Seat}
use Rattle.change.specs.declared.seat.Seat.TheVariants.{Taken, Free}

-- ---- read

first-strip : (n a : ℕ) (m : List ℕ) (b : ℕ) (s : List ℕ) → strip_of (blocks_of (suc n) a m b s) ≡ is_strip s
unfolding blocks_of sum_of
first-strip n a m b s = refl

pub held-taken : (s : List ℕ) (p : Place) (ds ss ds' ss' : List ℕ) (r : ℕ) → Fillable s p (length ds) (length ss) → Filled s p ds ss ds' ss' r → Held s (Taken p) ds ss r ds' ss'
held-taken s p ds ss ds' ss' r h f =
    let ps = posts_of (blocks_at s p.at p.count) in
    let n = right-count (blocks_at s p.at p.count) h.right in
    let d : length (docs ps) ≡ length ps = map-length (λ (q : Post). q.doc) ps in
    let w : length (scores ps) ≡ length ps = map-length (λ (q : Post). q.score) ps in
    record { docids = stored-holds (omega (arith, h.roomy)) f.docids; scored = stored-holds (omega (arith, h.wide)) f.scored }

pub held_none : (s : List ℕ) (at : ℕ) (ds ss : List ℕ) → Held s (Free at) ds ss 0 ds ss
held_none s at ds ss = record { docids = record { count = refl; whole = refl }; scored = record { count = refl; whole = refl } }

pub held-runs : {s : List ℕ} {seat : Seat} {r : ℕ} {ds ss ds' ss' : List ℕ} → Held s seat ds ss r ds' ss' → Runs ds' ss' r (held_by s seat)
held-runs {s} {seat} h = holds-runs (held_by s seat) h.docids h.scored

-- the layout of a seat's list, by its first body
pub strip-taken : (s : List ℕ) (p : Place) → Stood (Taken p) → strip_by s (Taken p) ≡ is_strip (drop (p.at + 8 + 12 * p.count) s)
unfolding blocks_at
strip-taken s p h = go p.count h.0
  where
    go : (n : ℕ) → 0 < n → strip_of (blocks_of n (p.at + 8) (drop (p.at + 8) s) (p.at + 8 + 12 * n) (drop (p.at + 8 + 12 * n) s)) ≡ is_strip (drop (p.at + 8 + 12 * n) s)
    go zero z = absurd (omega arith)
    go (suc n) z = first-strip n (p.at + 8) (drop (p.at + 8) s) (p.at + 8 + 12 * suc n) (drop (p.at + 8 + 12 * suc n) s)

-- ---- packed anew

module _ (strip : Bool) (t : ℕ) (ds ss : List ℕ) where
  pub new_none : length ds ≡ 0 → packed_bytes strip t (postings ds ss) ≡ []
  new_none e = go ds e
    where
      go : (xs : List ℕ) → length xs ≡ 0 → packed_bytes strip t (postings xs ss) ≡ []
      go [] q = refl
      go (x ∷ xs) q = absurd (omega arith)

  pub new-some : length ds ≡ length ss → (length ds ≡ 0 → ⊥) → packed_bytes strip t (postings ds ss) ≡ list_bytes strip t (postings ds ss)
  new-some e z = go ds ss e z
    where
      go : (xs ys : List ℕ) → length xs ≡ length ys → (length xs ≡ 0 → ⊥) → packed_bytes strip t (postings xs ys) ≡ list_bytes strip t (postings xs ys)
      go [] ys q n = absurd (n refl)
      go (x ∷ xs) [] q n = absurd (omega arith)
      go (x ∷ xs) (y ∷ ys) q n = refl

  pub new-small : length (packed_bytes strip t (postings ds ss)) ≤ 45768
  new-small = go (postings ds ss) (omega (arith, list-size strip t ds ss, size_small strip ds ss))
    where
      go : (ps : List Post) → length (list_bytes strip t ps) ≤ 45768 → length (packed_bytes strip t ps) ≤ 45768
      go [] h = omega arith
      go (p ∷ ps) h = h

pub may-paired : (ds ss : List ℕ) → May ds ss → (length ds ≡ 0 → ⊥) → Paired ds ss
may-paired ds ss m z = record { same = m.same; may = m.may z }

pub none-stored : (l : List ℕ) (at : ℕ) (v : List ℕ) → v ≡ [] → Stored l l at at v
none-stored l at v e = stored_as (sym e) (record { past = omega arith; whole = refl })

-- ---- in place

module _ (s : List ℕ) (at next : ℕ) (mid : List ℕ) (order : at ≤ next) (inside : next ≤ length s) where
  pub splice-length : length (spliced s at next mid) ≡ at + length mid + (length s - next)
  splice-length =
      omega (arith, length-append (take at s) (mid ++ drop next s), length-append mid (drop next s), length-take-le at s (omega arith), length-drop next s)

  pub splice_large : (room : ℕ) → max_shelf < length (spliced s at next mid) → fitting (spliced s at next mid) room ≡ refused 11 0
  splice_large room h = rw (lt-leb (length (spliced s at next mid)) 1048576 h)

  pub splice_tight : (room : ℕ) → length (spliced s at next mid) ≤ max_shelf → room < length (spliced s at next mid) → fitting (spliced s at next mid) room ≡ refused 9 0
  splice_tight room h l = rw (le-leb (length (spliced s at next mid)) 1048576 h, lt-leb (length (spliced s at next mid)) room l)

  pub splice-fits : (room : ℕ) → length (spliced s at next mid) ≤ max_shelf → length (spliced s at next mid) ≤ room → fitting (spliced s at next mid) room ≡ done (spliced s at next mid)
  splice-fits room h l = rw (le-leb (length (spliced s at next mid)) 1048576 h, le-leb (length (spliced s at next mid)) room l)

  -- the three parts, stored one after the other
  pub splice-stored : {l m n o : List ℕ} {a b c : ℕ} → Stored l m 0 a (up_to at s 0) → Stored m n a b mid → Stored n o b c (up_to (length s) s next) → Stored l o 0 c (spliced s at next mid)
  splice-stored x y z =
      let front : up_to at s 0 ≡ take at s = let k : at - 0 ≡ at = omega arith in rw k in
      stored-append (stored_as front x) (stored-append y (stored_as (part_end next s) z))

-- ---- at its seat

module _ (s : List ℕ) (n t : ℕ) (ds ss : List ℕ) (room : ℕ) (same : length ds ≡ length ss) where
  count : length (postings ds ss) ≡ length ds
  count = count_of ds ss same

  pub place_many : (seat : Seat) → max_postings < length ds → placed s n seat t (postings ds ss) room ≡ refused 11 0
  unfolding placed
  place_many seat h = rw (lt-leb (length (postings ds ss)) 6400 (omega (arith, count)))

  pub place_full : (a : ℕ) → length ds ≤ max_postings → max_lists ≤ n → placed s n (Free a) t (postings ds ss) room ≡ refused 11 0
  unfolding placed
  place_full a h l = rw (le-leb (length (postings ds ss)) 6400 (omega (arith, count)), lt-leb (suc n) 1024 (omega arith))

  pub place-free : (a : ℕ) → length ds ≤ max_postings → n < max_lists → placed s n (Free a) t (postings ds ss) room ≡ fitting (spliced s a a (packed_bytes (strip_by s (Free a)) t (postings ds ss))) room
  unfolding placed
  place-free a h l = rw (le-leb (length (postings ds ss)) 6400 (omega (arith, count)), le-leb (suc n) 1024 l)

  pub place-taken : (p : Place) → length ds ≤ max_postings → n ≤ max_lists → placed s n (Taken p) t (postings ds ss) room ≡ fitting (spliced s p.at p.next (packed_bytes (strip_by s (Taken p)) t (postings ds ss))) room
  unfolding placed
  place-taken p h l = rw (le-leb (length (postings ds ss)) 6400 (omega (arith, count)), le-leb n 1024 l)
