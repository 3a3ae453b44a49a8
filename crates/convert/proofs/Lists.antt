-- The lists of a sound shelf with one of them turned: they stand, they are as long, they hold the same, and the others are as they were. Assumes nothing.
use Prim.Native.Nat.{ℕ, suc, ◌+◌, ◌-◌}
use native.Mathlib.Omega.{arith}
use mathlib.Core.Path.{◌≡◌, refl, ap, ◌∙◌}
use mathlib.Core.List.{List, [], ◌∷◌}
use mathlib.Core.Bool.{false, not}
use borrow.Author.Tests.{eqb-true, ne_eqb}
use lib.Dec.{eqb}
use lib.ListN.{length, drop, length-append}
use Rattle.model.specs.Outcome.{done}
use Rattle.model.specs.Runs.{Bytes}
use Rattle.model.proofs.Lists.{split}
use Rattle.shelf.specs.Walk.{Listing, lists, posts_of, strip_of}
use Rattle.shelf.specs.Check.{bad_body, bad_lists, checked}
use Rattle.std.specs.Prelude.{None}
use Rattle.shelf.proofs.Sounds.{or_none}
use Rattle.list.specs.Write.{Word, word_of, words_of}
use Rattle.change.specs.Bytes.{piece_of, pieces, joined, contents, bytes_for}
use Rattle.change.proofs.Pieces.{Rises, lists_inv, pieces-joined, checked-sound, sound-rises}
use Rattle.convert.specs.Convert.{turned, turned_pieces, turn_words}
use Rattle.convert.proofs.Layouts.{turned_stands, turned-size}

module _ (t : ℕ) where
  -- ---- they stand

  rise : (n floor at : ℕ) (s : List ℕ) (ls : List Listing) → Bytes s → lists n floor at (drop at s) ≡ done ls → bad_lists ls ≡ None → Rises floor (pieces s ls) → Rises floor (turned_pieces t s ls)
  rise n floor at s [] h e b g = tt
  rise n floor at s (l ∷ ms) h e b g =
      let i = lists_inv n floor at s l ms e in
      let o = or_none (bad_body l.blocks) (bad_lists ms) b in
      let ih = rise (n - 1) (l.place.term + 1) l.place.next s ms h i.left o.1 g.2 in
      split (eqb l.place.term t)
      (λ q. rw q (g.0, turned_stands floor at s l h i.reads o.0, ih))
      (λ q. rw q (g.0, g.1, ih))

  pub turned-rises : (s : List ℕ) (ls : List Listing) → Bytes s → checked s ≡ done ls → Rises 0 (turned_pieces t s ls)
  turned-rises s ls h e =
      let o = checked-sound s ls e in
      rise 1024 0 0 s ls h o.reads o.right (sound-rises s ls h e)

  pub turned-count : (s : List ℕ) (ls : List Listing) → length (turned_pieces t s ls) ≡ length ls
  turned-count s [] = refl
  turned-count s (l ∷ ms) = split (eqb l.place.term t) (λ q. rw q (ap suc (turned-count s ms))) (λ q. rw q (ap suc (turned-count s ms)))

  -- ---- they are as long

  sizes : (n floor at : ℕ) (s : List ℕ) (ls : List Listing) → Bytes s → lists n floor at (drop at s) ≡ done ls → bad_lists ls ≡ None → length (joined (turned_pieces t s ls)) ≡ length (joined (pieces s ls))
  sizes n floor at s [] h e b = refl
  sizes n floor at s (l ∷ ms) h e b =
      let i = lists_inv n floor at s l ms e in
      let o = or_none (bad_body l.blocks) (bad_lists ms) b in
      let ih = sizes (n - 1) (l.place.term + 1) l.place.next s ms h i.left o.1 in
      let rest = joined (turned_pieces t s ms) in
      let old = length-append (piece_of s l).bytes (joined (pieces s ms)) in
      split (eqb l.place.term t)
      (λ q. rw q (omega (arith, length-append (turned l).bytes rest, old, ih, turned-size floor at s l h i.reads o.0)))
      (λ q. rw q (omega (arith, length-append (piece_of s l).bytes rest, old, ih)))

  pub turned-length : (s : List ℕ) (ls : List Listing) → Bytes s → checked s ≡ done ls → length (joined (turned_pieces t s ls)) ≡ length s
  turned-length s ls h e =
      let o = checked-sound s ls e in
      sizes 1024 0 0 s ls h o.reads o.right ∙ ap length (pieces-joined 1024 0 0 s ls o.reads)

  -- ---- they hold the same

  pub turned-holds : (s : List ℕ) (ls : List Listing) → contents (turned_pieces t s ls) ≡ turn_words t (words_of ls)
  turned-holds s [] = refl
  turned-holds s (l ∷ ms) =
      split (eqb l.place.term t)
      (λ q. rw q (ap {B = List Word} (λ ws. record { term = l.place.term; posts = posts_of l.blocks; strip = not (strip_of l.blocks) } ∷ ws) (turned-holds s ms)))
      (λ q. rw q (ap {B = List Word} (λ ws. word_of l ∷ ws) (turned-holds s ms)))

  -- ---- the others are as they were

  pub others_stay : (u : ℕ) (s : List ℕ) (ls : List Listing) → (u ≡ t → ⊥) → bytes_for u (turned_pieces t s ls) ≡ bytes_for u (pieces s ls)
  others_stay u s [] n = refl
  others_stay u s (l ∷ ms) n =
      let ih = others_stay u s ms n in
      split (eqb l.place.term t)
      (λ q.
      let k : eqb u l.place.term ≡ false = ne_eqb u l.place.term (λ (z : u ≡ l.place.term). n (z ∙ eqb-true _ _ q)) in
      rw (q, k) ih)
      (λ q. split (eqb u l.place.term) (λ k. rw (q, k)) (λ k. rw (q, k) ih))
