-- A history of edits and conversions from the empty shelf: sound, what the accepted ones add up to, and one writing of it. Assumes nothing.
use Prim.Native.Nat.{ℕ, ◌+◌, ◌≤◌}
use native.Mathlib.Omega.{arith}
use mathlib.Core.Path.{◌≡◌, refl, sym, ap, subst, ◌∙◌}
use mathlib.Core.List.{List, [], ◌∷◌, ◌++◌}
use mathlib.Core.Bool.{Bool, not}
use lib.Dec.{ltb, eqb}
use lib.ListN.{length, length-append}
use Rattle.model.specs.Limits.{max_lists, max_shelf}
use Rattle.model.specs.Outcome.{Outcome, refused, done}
use Rattle.model.specs.Post.{Post, docs}
use Rattle.model.specs.Runs.{All, has}
use Rattle.model.proofs.Lists.{split}
use Rattle.shelf.specs.Walk.{Listing}
use Rattle.shelf.specs.Check.{checked}
use Rattle.list.specs.Write.{packed, Word, Words, list_bytes, writing}
use Rattle.list.proofs.Writes.{blocks-size, list-bytes}
use Rattle.change.specs.Edits.{Edit, Set, Clear, Withdraw, clear_post, set_word, unless_empty, clear_words, only, every, applied, Termed}
use Rattle.change.specs.Bytes.{Piece, pieces, joined, contents, anew, set_piece, anew_unless_empty, clear_pieces, changed, edited}
use Rattle.convert.specs.Convert.{converted, turn_words}
use Rattle.convert.proofs.Layouts.{bodies-even}
use Rattle.convert.proofs.Leaves.{turned-writing}
use Rattle.edit.specs.History.{Act, Change, Convert, made, does, Named, Try, or_stay, shelf_after, if_done, accepted, add_up, History}
use Rattle.change.proofs.Postings.{clear_absent}
use Rattle.change.proofs.Pieces.{Rises, anew_stands, standing_sound, pieces_hold}
use Rattle.edit.proofs.Changes.{changed-rises, rises-words}
use Rattle.edit.proofs.Sounds.{Passed, edited-done}

-- ---- the pieces of one writing

abbrev fresh : List Word → List Piece
fresh [] = []
fresh (w ∷ ws) = anew w.strip w.term w.posts ∷ fresh ws

fresh-rises : (floor : ℕ) (ws : List Word) → Words floor ws → Rises floor (fresh ws)
fresh-rises floor [] ok = tt
fresh-rises floor (w ∷ ws) ok = (ok.0, anew_stands w.strip w.term w.posts ok.1 ok.2, fresh-rises (w.term + 1) ws ok.3)

fresh-joined : (ws : List Word) → joined (fresh ws) ≡ writing ws
unfolding writing
fresh-joined [] = refl
fresh-joined (w ∷ ws) = ap {B = List ℕ} (λ t. list_bytes w.strip w.term w.posts ++ t) (fresh-joined ws)

fresh-contents : (ws : List Word) → contents (fresh ws) ≡ ws
fresh-contents [] = refl
fresh-contents (w ∷ ws) = ap {B = List Word} (λ t. w ∷ t) (fresh-contents ws)

fresh-length : (ws : List Word) → length (fresh ws) ≡ length ws
fresh-length [] = refl
fresh-length (w ∷ ws) = rw (fresh-length ws)

-- ---- an edit of one writing is one writing

fresh_set : (t d w : ℕ) (ws : List Word) → set_piece t d w (fresh ws) ≡ fresh (set_word t d w ws)
fresh_set t d w [] = refl
fresh_set t d w (x ∷ xs) =
    split (ltb t x.term)
    (λ l. rw l)
    (λ l. split (eqb t x.term) (λ f. rw (l, f)) (λ f. rw (l, f, fresh_set t d w xs)))

fresh-unless : (strip : Bool) (t : ℕ) (ps : List Post) (ws : List Word) → anew_unless_empty strip t ps (fresh ws) ≡ fresh (unless_empty strip t ps ws)
fresh-unless strip t [] ws = refl
fresh-unless strip t (p ∷ ps) ws = refl

unless-whole : (x : Word) (xs : List Word) → 0 + 1 ≤ length x.posts → unless_empty x.strip x.term x.posts xs ≡ x ∷ xs
unless-whole x xs l = go x.posts l
  where
    go : (ps : List Post) → 0 + 1 ≤ length ps → unless_empty x.strip x.term ps xs ≡ record { term = x.term; posts = ps; strip = x.strip } ∷ xs
    go [] l = absurd (omega arith)
    go (p ∷ ps) l = refl

fresh-clear : (named : ℕ → Bool) (floor d : ℕ) (ws : List Word) → Words floor ws → clear_pieces named d (fresh ws) ≡ fresh (clear_words named d ws)
fresh-clear named floor d [] ok = refl
fresh-clear named floor d (x ∷ xs) ok =
    let ih = fresh-clear named (x.term + 1) d xs ok.3 in
    split (named x.term)
    (λ m. split (has d (docs x.posts))
    (λ h. rw (m, h, ih) (fresh-unless x.strip x.term (clear_post d x.posts) (clear_words named d xs)))
    (λ h. rw (m, h, ih, clear_absent d x.posts h, unless-whole x (clear_words named d xs) ok.2.some)))
    (λ m. rw (m, ih))

fresh-changed : (e : Edit) (ws : List Word) → Words 0 ws → changed e (fresh ws) ≡ fresh (applied e ws)
unfolding changed applied
fresh-changed (Set t d w) ws ok = fresh_set t d w ws
fresh-changed (Clear t d) ws ok = fresh-clear (only t) 0 d ws ok
fresh-changed (Withdraw d) ws ok = fresh-clear every 0 d ws ok

-- ---- the history

-- the shelf s is sound and holds exactly the words ws, and its bytes are one writing of them
pub record Packed (s : List ℕ) (ws : List Word) : Type 0 where
  pub words : Words 0 ws
  pub lists : length ws ≤ max_lists
  pub short : length s ≤ max_shelf
  pub bytes : s ≡ writing ws

pub record Held (s : List ℕ) (ws : List Word) : Type 0 where
  pub found : List Listing
  pub sound : checked s ≡ done found
  pub holds : pieces s found ≡ fresh ws

packed-held : (s : List ℕ) (ws : List Word) → Packed s ws → Held s ws
packed-held s ws p =
    let f = standing_sound s (fresh ws) (fresh-joined ws ∙ sym p.bytes) (fresh-rises 0 ws p.words) (omega (arith, fresh-length ws, p.lists)) p.short in
    record { found = f.0; sound = f.1; holds = f.2 }

packed-edit : (e : Edit) (s : List ℕ) (ws : List Word) (room : ℕ) (v : List ℕ) → Termed e → Packed s ws → edited e s room ≡ done v → Packed v (applied e ws)
packed-edit e s ws room v t k q =
    let h = packed-held s ws k in
    let a = edited-done e s room v q in
    let same : a.old ≡ h.found = let z : done a.old ≡ done h.found = sym a.sound ∙ h.sound in cc in
    let xs : pieces s a.old ≡ fresh ws = ap (λ (x : List Listing). pieces s x) same ∙ h.holds in
    let p : Passed e (fresh ws) room v = subst (λ (x : List Piece). Passed e x room v) xs a.passed in
    let c : changed e (fresh ws) ≡ fresh (applied e ws) = fresh-changed e ws k.words in
    let r : Rises 0 (changed e (fresh ws)) = changed-rises e (fresh ws) t a.ranged (fresh-rises 0 ws k.words) p.few in
    let ok : Words 0 (contents (changed e (fresh ws))) = rises-words 0 (changed e (fresh ws)) r in
    let ws1 : contents (changed e (fresh ws)) ≡ applied e ws = ap contents c ∙ fresh-contents (applied e ws) in
    record {
      words = subst (λ (x : List Word). Words 0 x) ws1 ok;
      lists = omega (arith, p.lists, ap length c, fresh-length (applied e ws));
      short = omega (arith, p.short, ap length p.bytes);
      bytes = sym p.bytes ∙ ap joined c ∙ fresh-joined (applied e ws);
    }

-- ---- a conversion of one writing is one writing, as long as before

list-even : (a b : Bool) (t : ℕ) (ps : List Post) → length (list_bytes a t ps) ≡ length (list_bytes b t ps)
list-even a b t ps =
    omega (
      arith,
      ap length (list-bytes a t ps),
      ap length (list-bytes b t ps),
      blocks-size a t (packed 64 ps),
      blocks-size b t (packed 64 ps),
      bodies-even a b (packed 64 ps),
    )

turned-even : (t : ℕ) (ws : List Word) → length (writing (turn_words t ws)) ≡ length (writing ws)
unfolding writing
turned-even t [] = refl
turned-even t (w ∷ ws) =
    let own = length-append (list_bytes w.strip w.term w.posts) in
    split (eqb w.term t)
    (λ e. rw e (omega (
      arith,
      length-append (list_bytes (not w.strip) w.term w.posts) (writing (turn_words t ws)),
      own (writing ws),
      list-even (not w.strip) w.strip w.term w.posts,
      turned-even t ws,
    )))
    (λ e. rw e (omega (arith, own (writing (turn_words t ws)), own (writing ws), turned-even t ws)))

turned_many : (t : ℕ) (ws : List Word) → length (turn_words t ws) ≡ length ws
turned_many t [] = refl
turned_many t (w ∷ ws) = split (eqb w.term t) (λ e. rw (e, turned_many t ws)) (λ e. rw (e, turned_many t ws))

packed-turn : (t : ℕ) (s : List ℕ) (ws : List Word) (room : ℕ) (v : List ℕ) → Packed s ws → converted t s room ≡ done v → Packed v (turn_words t ws)
packed-turn t s ws room v k q =
    let w = turned-writing t s ws room v k.bytes k.words k.lists (omega (arith, k.short, ap length k.bytes)) q in
    record {
      words = w.1;
      lists = omega (arith, k.lists, turned_many t ws);
      short = omega (arith, k.short, ap length k.bytes, ap length w.0, turned-even t ws);
      bytes = w.0;
    }

packed-act : (a : Act) (s : List ℕ) (ws : List Word) (room : ℕ) (v : List ℕ) → Named a → Packed s ws → made a s room ≡ done v → Packed v (does a ws)
packed-act (Change e) s ws room v t k q = packed-edit e s ws room v t k q
packed-act (Convert u) s ws room v t k q = packed-turn u s ws room v k q

packed-after : (es : List Try) (s : List ℕ) (ws : List Word) → All (λ (e : Try). Named e.act) es → Packed s ws → Packed (shelf_after es s) (add_up (accepted es s) ws)
packed-after [] s ws t k = k
packed-after (e ∷ es) s ws t k = go (made e.act s e.room) refl (λ v us m. packed-after es v us t.1 m)
  where
    go : (r : Outcome (List ℕ)) → made e.act s e.room ≡ r → ((v : List ℕ) (us : List Word) → Packed v us → Packed (shelf_after es v) (add_up (accepted es v) us)) →
        Packed (shelf_after es (or_stay s r)) (add_up (if_done e.act r (accepted es (or_stay s r))) ws)
    go (refused n o) q ih = ih s ws k
    go (done v) q ih = ih v (does e.act ws) (packed-act e.act s ws e.room v t.0 k q)

pub history : (es : List Try) → All (λ (e : Try). Named e.act) es → History (shelf_after es []) (add_up (accepted es []) [])
unfolding writing
history es t =
    let k = packed-after es [] [] t (record { words = tt; lists = omega arith; short = omega arith; bytes = refl }) in
    let h = packed-held (shelf_after es []) (add_up (accepted es []) []) k in
    record {
      found = h.found;
      sound = h.sound;
      holds = sym (pieces_hold (shelf_after es []) h.found) ∙ ap contents h.holds ∙ fresh-contents (add_up (accepted es []) []);
      words = k.words;
      bytes = k.bytes;
    }
