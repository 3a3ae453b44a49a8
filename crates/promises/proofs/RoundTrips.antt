-- Demand 2, reading and writing: "a sound list with every block but the last full, read and written, is the same bytes". Assumes nothing.
use Prim.Native.Nat.{ℕ, ◌+◌, ◌-◌, ◌≤◌, min}
use native.Mathlib.Omega.{arith}
use mathlib.Core.Path.{◌≡◌, refl, sym, subst}
use mathlib.Core.List.{List, [], ◌∷◌}
use lib.Dec.{leb}
use lib.ListN.{length, drop, length-drop}
use lib.Seq.{length-take-le}
use Rattle.std.specs.Prelude.{Option, Some, None}
use Rattle.model.specs.Outcome.{refused, done, and_then}
use Rattle.model.specs.Post.{Post, docs, scores}
use Rattle.model.specs.Runs.{All, Bytes}
use Rattle.model.proofs.Lists.{split, bytes_drop}
use Rattle.shelf.specs.Walk.{Block, Listing, posts_of, strip_of, list, lists, walk}
use Rattle.shelf.specs.Check.{bad_body}
use Rattle.lookup.specs.Find.{find_of, found}
use Rattle.shelf.proofs.Walks.{list-walked}
use Rattle.lookup.proofs.Stands.{walk-lists, find_has}
use Rattle.list.specs.Read.{held_by, in_room, read_blocks, read_list}
use Rattle.list.specs.Write.{Full, write_list}
use Rattle.list.proofs.WritesBack.{written_back}
use Rattle.change.proofs.Pieces.{lists_inv}
use Rattle.promises.specs.Served.{bytes_of}

-- a list as it was read, where it stands
record Stood (s : List ℕ) (l : Listing) : Type 0 where
  floor : ℕ
  reads : list floor l.place.at (drop l.place.at s) ≡ done l
  within : l.place.next ≤ length s

all-stand : (n floor at : ℕ) (s : List ℕ) (ls : List Listing) → lists n floor at (drop at s) ≡ done ls → All (Stood s) ls
all-stand n floor at s [] e = tt
all-stand n floor at s (l ∷ ls) e =
    let i = lists_inv n floor at s l ls e in
    let w = list-walked floor at s l i.reads in
    (record { floor = floor; reads = subst (λ (n : ℕ). list floor n (drop n s) ≡ done l) (sym w.start) i.reads; within = w.within }, all-stand (n - 1) (l.place.term + 1) l.place.next s ls i.left)

-- a list that is read has no wrong body, and what is read are its postings
read-posts : (bs : List Block) (d w : ℕ) (ps : List Post) → read_blocks bs d w ≡ done ps → (bad_body bs ≡ None) × (posts_of bs ≡ ps)
read-posts bs d w ps e = go (bad_body bs) refl e
  where
    go : (r : Option ℕ) → bad_body bs ≡ r → and_then (held_by bs r) (in_room d w) ≡ done ps → (bad_body bs ≡ None) × (posts_of bs ≡ ps)
    go (Some at) b f = let z : ◌≡◌ {A = ℕ} 0 1 = cc in absurd (omega arith)
    go None b f =
        split (leb (length (posts_of bs)) (min d w))
        (λ t. let g : done (posts_of bs) ≡ done ps = rw t at f in (b, cc))
        (λ t. let g : refused 9 0 ≡ done ps = rw t at f in let z : ◌≡◌ {A = ℕ} 0 1 = cc in absurd (omega arith))

module _ (s : List ℕ) (ls : List Listing) (h : Bytes s) (e : walk s ≡ done ls) (t : ℕ) (l : Listing) (f : find_of t ls ≡ done l) where
  stood : Stood s l × (l.place.term ≡ t)
  stood = find_has (Stood s) t ls l f (all-stand 1024 0 0 s ls (walk-lists s ls e))

  -- the reader gives the postings of the list that was found
  given : (d w : ℕ) (ps : List Post) → read_list t s d w ≡ done ps → (bad_body l.blocks ≡ None) × (posts_of l.blocks ≡ ps)
  unfolding read_list found
  given d w ps r = read-posts l.blocks d w ps (rw (e, f) at r)

  pub read-and-written : Full l.blocks → (d w : ℕ) (ps : List Post) → read_list t s d w ≡ done ps → (room : ℕ) → length (bytes_of s l) ≤ room
      → write_list (strip_of l.blocks) t (docs ps) (scores ps) room ≡ done (bytes_of s l)
  read-and-written u d w ps r room fits =
      let o = stood.0 in
      let at = l.place.at in
      let n : length (bytes_of s l) ≡ l.place.next - at = length-take-le (l.place.next - at) (drop at s) (omega (arith, length-drop at s, o.within)) in
      subst (λ (qs : List Post). write_list (strip_of l.blocks) t (docs qs) (scores qs) room ≡ done (bytes_of s l)) (given d w ps r).1
      (rw stood.1 at (written_back o.floor at (drop at s) l (bytes_drop at s h) o.reads (given d w ps r).0 u room (omega arith)))
