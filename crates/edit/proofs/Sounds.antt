-- "On any other sound shelf an accepted edit likewise leaves a sound shelf with the old postings and its own change." Assumes nothing.
use Prim.Native.Nat.{ℕ, ◌≤◌}
use native.Mathlib.Omega.{arith}
use mathlib.Core.Path.{◌≡◌, refl, sym, ap, subst, ◌∙◌}
use mathlib.Core.List.{List, [], ◌∷◌}
use mathlib.Core.Bool.{true, false, false≢true, cond, ◌&&◌}
use borrow.Author.Tests.{leb-true, eqb-true}
use lib.Dec.{leb, eqb}
use lib.ListN.{length}
use Rattle.model.specs.Limits.{max_lists, max_shelf}
use Rattle.model.specs.Outcome.{Outcome, refused, done, and_then}
use Rattle.model.specs.Post.{Post, last_doc, top_score}
use Rattle.model.specs.Runs.{All, Bytes}
use Rattle.model.proofs.Lists.{split, and-true}
use Rattle.wire.specs.Read.{Read, got, stopped}
use Rattle.block.specs.Body.{body_posts, fits, right_body}
use Rattle.shelf.specs.Walk.{Block, Listing, read_or}
use Rattle.shelf.specs.Check.{bad_body, bad_lists, checked}
use Rattle.std.specs.Prelude.{Some, None}
use Rattle.shelf.proofs.Sounds.{or_none}
use Rattle.list.specs.Write.{Word, words_of}
use Rattle.list.proofs.Shelves.{sound-words}
use Rattle.change.specs.Edits.{Edit, applied, stored, touches, left_score, Termed}
use Rattle.edit.specs.Leaves.{Leaves, Capped}
use Rattle.change.specs.Bytes.{bytes_for, repacks, Piece, pieces, joined, contents, changed, in_range, there, few, within, settled, edited}
use Rattle.change.proofs.Pieces.{Rises, checked-sound, sound-rises, standing_sound, pieces_hold}
use Rattle.edit.proofs.Changes.{changed-rises, changed-contents, changed-copies}
use Rattle.change.proofs.Postings.{words_ordered, stored-applied}

-- ---- what an accepted edit passed

pub record Passed (e : Edit) (xs : List Piece) (room : ℕ) (v : List ℕ) : Type 0 where
  pub there : there e xs ≡ true
  pub few : few (changed e xs) ≡ true
  pub lists : length (changed e xs) ≤ max_lists
  pub short : length (joined (changed e xs)) ≤ max_shelf
  pub fits : length (joined (changed e xs)) ≤ room
  pub bytes : joined (changed e xs) ≡ v

settled-done : (e : Edit) (xs : List Piece) (room : ℕ) (v : List ℕ) → settled e xs room ≡ done v → Passed e xs room v
unfolding settled within
settled-done e xs room v q =
    split (there e xs)
    (λ h. split (few (changed e xs) && (leb (length (changed e xs)) max_lists && leb (length (joined (changed e xs))) max_shelf))
    (λ w. split (leb (length (joined (changed e xs))) room)
    (λ r.
    let f : done (joined (changed e xs)) ≡ done v = rw (h, w, r) at q in
    let a = and-true (few (changed e xs)) _ w in
    let b = and-true (leb (length (changed e xs)) max_lists) _ a.1 in
    record { there = h; few = a.0; lists = leb-true _ _ b.0; short = leb-true _ _ b.1; fits = leb-true _ _ r; bytes = cc })
    (λ r. let f : refused 9 0 ≡ done v = rw (h, w, r) at q in let z : ◌≡◌ {A = ℕ} 0 1 = cc in absurd (omega arith)))
    (λ w. let f : refused 11 0 ≡ done v = rw (h, w) at q in let z : ◌≡◌ {A = ℕ} 0 1 = cc in absurd (omega arith)))
    (λ h. let f : refused 12 0 ≡ done v = rw h at q in let z : ◌≡◌ {A = ℕ} 0 1 = cc in absurd (omega arith))

-- an accepted edit: its numbers are in range, its shelf was sound, and it passed 12, 11 and 9
pub record Accepted (e : Edit) (s : List ℕ) (room : ℕ) (v : List ℕ) : Type 0 where
  pub ranged : in_range e ≡ true
  pub old : List Listing
  pub sound : checked s ≡ done old
  pub passed : Passed e (pieces s old) room v

pub edited-done : (e : Edit) (s : List ℕ) (room : ℕ) (v : List ℕ) → edited e s room ≡ done v → Accepted e s room v
unfolding edited
edited-done e s room v q =
    split (in_range e)
    (λ g. go g (checked s) refl (rw g at q))
    (λ g. let f : refused 10 0 ≡ done v = rw g at q in let z : ◌≡◌ {A = ℕ} 0 1 = cc in absurd (omega arith))
  where
    go : in_range e ≡ true → (r : Outcome (List Listing)) → checked s ≡ r → and_then r (λ ls. settled e (pieces s ls) room) ≡ done v → Accepted e s room v
    go g (refused n o) c f = let z : ◌≡◌ {A = ℕ} 0 1 = cc in absurd (omega arith)
    go g (done ls) c f = record { ranged = g; old = ls; sound = c; passed = settled-done e (pieces s ls) room v f }

-- ---- what it leaves

-- the same over the pieces that the edit changed
pub leaves : (e : Edit) (s : List ℕ) (old : List Listing) (room : ℕ) (v : List ℕ) → Termed e → in_range e ≡ true → Rises 0 (pieces s old) → Passed e (pieces s old) room v → Leaves e s old v
leaves e s old room v t g r p =
    let xs = pieces s old in
    let f = standing_sound v (changed e xs) p.bytes (changed-rises e xs t g r p.few) p.lists (omega (arith, p.short, ap length p.bytes)) in
    record {
      new = f.0;
      sound = f.1;
      kept = f.2;
      holds = sym (pieces_hold v f.0) ∙ ap contents f.2 ∙ changed-contents e xs r ∙ ap (λ (ws : List Word). applied e ws) (pieces_hold s old);
    }

pub edit-sound : (e : Edit) (s : List ℕ) (old : List Listing) (room : ℕ) (v : List ℕ) → Termed e → Bytes s → checked s ≡ done old → edited e s room ≡ done v → Leaves e s old v
edit-sound e s old room v t b c q =
    let a = edited-done e s room v q in
    let same : a.old ≡ old = let z : done a.old ≡ done old = sym a.sound ∙ c in cc in
    let p : Passed e (pieces s old) room v = subst (λ (x : List Listing). Passed e (pieces s x) room v) same a.passed in
    leaves e s old room v t a.ranged (sound-rises s old b c) p

-- ---- the same, said of each posting and of each list

module _ (e : Edit) (s : List ℕ) (old : List Listing) (v : List ℕ) (b : Bytes s) (c : checked s ≡ done old) (after : Leaves e s old v) where
  -- where the edit touches, the score that it leaves, and every other posting as before
  pub edit-holds : (t d : ℕ) → stored t d (words_of after.new) ≡ cond (touches e t d) (left_score e) (stored t d (words_of old))
  edit-holds t d = rw after.holds (stored-applied e t d (words_of old) (words_ordered 0 (words_of old) (sound-words s old b c)))

  -- "others are copied byte for byte"
  pub others_copied : (t : ℕ) → repacks e t (pieces s old) ≡ false → bytes_for t (pieces v after.new) ≡ bytes_for t (pieces s old)
  others_copied t n = rw after.kept (changed-copies e t (pieces s old) n)

-- ---- the incident: the stored greatest score is the largest score of the body

right-capped : (b : Block) → right_body b.sum b.body ≡ true → Capped b
unfolding right_body
right-capped b e = go (body_posts b.sum b.body) e
  where
    go : (r : Read (List Post)) → fits b.sum.greatest b.sum.top 0 0 r ≡ true → top_score 0 (read_or r) ≡ b.sum.top
    go (stopped k) f = absurd (false≢true f)
    go (got ps k) f = eqb-true _ _ (and-true (eqb (last_doc 0 ps) b.sum.greatest) _ f).1

blocks-capped : (bs : List Block) → bad_body bs ≡ None → All Capped bs
blocks-capped [] e = tt
blocks-capped (b ∷ bs) e =
    split (right_body b.sum b.body)
    (λ w. (right-capped b w, blocks-capped bs (rw w at e)))
    (λ w. let g : Some b.body_at ≡ None = rw w at e in let z : ◌≡◌ {A = ℕ} 0 1 = cc in absurd (omega arith))

lists-capped : (ls : List Listing) → bad_lists ls ≡ None → All (λ (l : Listing). All Capped l.blocks) ls
lists-capped [] e = tt
lists-capped (l ∷ ls) e =
    let o = or_none (bad_body l.blocks) (bad_lists ls) e in
    (blocks-capped l.blocks o.0, lists-capped ls o.1)

-- after an accepted edit every block of every list stores the largest score of its body as its greatest
pub ceiling-holds : (e : Edit) (s : List ℕ) (old : List Listing) (v : List ℕ) → (after : Leaves e s old v) → All (λ (l : Listing). All Capped l.blocks) after.new
ceiling-holds e s old v after = lists-capped after.new (checked-sound v after.new after.sound).right
