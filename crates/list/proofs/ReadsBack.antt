-- "Postings written and read back are the same postings": what the reader gives on a sound shelf, and so on one writing. Assumes nothing.
use Prim.Native.Nat.{ℕ, ◌^◌, ◌≤◌, ◌<◌, min}
use native.Mathlib.Omega.{arith}
use mathlib.Core.Path.{◌≡◌, refl, sym, ap, ◌∙◌}
use mathlib.Core.Bool.{Bool, true, cond}
use mathlib.Core.List.{List, [], ◌∷◌, append-nil}
use borrow.Author.Tests.{eq-eqb, le-leb}
use lib.Dec.{leb, eqb}
use lib.ListN.{length}
use Rattle.model.specs.Limits.{max_lists, max_shelf}
use Rattle.model.specs.Outcome.{Outcome, refused, done, and_then}
use Rattle.model.specs.Post.{Post, postings}
use Rattle.model.proofs.Lists.{split}
use Rattle.model.proofs.Posts.{count_of}
use Rattle.shelf.specs.Walk.{Listing}
use Rattle.shelf.specs.Check.{bad_body, bad_lists, checked}
use Rattle.shelf.proofs.Sounds.{or_none, sound-walk}
use Rattle.lookup.specs.Find.{find_of, found}
use Rattle.std.specs.Prelude.{None}
use Rattle.list.specs.Read.{in_room, read_blocks, read_list}
use Rattle.list.specs.Write.{Word, Words, list_bytes, writing, words_of, write_list}
use Rattle.list.proofs.Accepted.{written-accepted}
use Rattle.list.proofs.Packing.{list-size, size_small}
use Rattle.list.proofs.Shelves.{writing-holds}

-- the postings of the word t
abbrev pub find_word : ℕ → List Word → Outcome (List Post)
find_word t [] = refused 12 0
find_word t (w ∷ ws) = cond (eqb w.term t) (done w.posts) (find_word t ws)

find_words : (t d w : ℕ) (ls : List Listing) → bad_lists ls ≡ None → and_then (find_of t ls) (λ l. read_blocks l.blocks d w) ≡ and_then (find_word t (words_of ls)) (in_room d w)
find_words t d w [] e = refl
find_words t d w (l ∷ ls) e =
    let b = or_none (bad_body l.blocks) (bad_lists ls) e in
    split (eqb l.place.term t) (λ q. rw (q, b.0)) (λ q. rw q (find_words t d w ls b.1))

-- on a sound shelf the reader gives what the shelf holds for the term
pub sound-read : (s : List ℕ) (ls : List Listing) (t d w : ℕ) → checked s ≡ done ls → read_list t s d w ≡ and_then (find_word t (words_of ls)) (in_room d w)
unfolding read_list found
sound-read s ls t d w e = let k = sound-walk s ls e in rw k.0 (find_words t d w ls k.1)

-- one writing of some words holds each of them
pub writing-read : (ws : List Word) (t d w : ℕ) → Words 0 ws → length ws ≤ max_lists → length (writing ws) ≤ max_shelf → read_list t (writing ws) d w ≡ and_then (find_word t ws) (in_room d w)
writing-read ws t d w ok few small = go (checked (writing ws)) refl (writing-holds ws ok few small)
  where
    go : (r : Outcome (List Listing)) → checked (writing ws) ≡ r → and_then r (λ ls. done (words_of ls)) ≡ done ws → read_list t (writing ws) d w ≡ and_then (find_word t ws) (in_room d w)
    go (refused n o) e q = let z : ◌≡◌ {A = ℕ} 0 1 = cc in absurd (omega arith)
    go (done ls) e q = let same : words_of ls ≡ ws = cc in sound-read (writing ws) ls t d w e ∙ rw same

-- what the writer accepted reads back as the same postings, in runs that have room for them
pub written_reads_back : (strip : Bool) (t : ℕ) (ds ss : List ℕ) (room : ℕ) (v : List ℕ) (d w : ℕ) → t < 2 ^ 32 → write_list strip t ds ss room ≡ done v → length ds ≤ d → length ds ≤ w →
    read_list t v d w ≡ done (postings ds ss)
unfolding writing
written_reads_back strip t ds ss room v d w small e h k =
    let a = written-accepted strip t ds ss room v e in
    let ps = postings ds ss in
    let word : Word = record { term = t; posts = ps; strip = strip } in
    let one : writing (word ∷ []) ≡ v = append-nil (list_bytes strip t ps) ∙ sym a.bytes in
    let n : length ps ≡ length ds = count_of ds ss a.paired.same in
    let fits : length v ≤ max_shelf = omega (arith, ap length a.bytes, list-size strip t ds ss, size_small strip ds ss) in
    let ok : Words 0 (word ∷ []) = (omega arith, small, a.paired.may, tt) in
    let room_in : leb (length ps) (min d w) ≡ true = le-leb (length ps) (min d w) (omega arith) in
    rw one at (writing-read (word ∷ []) t d w ok (omega arith) (rw one fits)) ∙ rw (eq-eqb t t refl, room_in)
