-- What a conversion leaves: a sound shelf with every posting as it was, a writing where there was one; and a second conversion undoes it. Assumes nothing.
use Prim.Native.Nat.{ℕ, ◌+◌, ◌-◌, ◌*◌, ◌^◌, ◌≤◌, ◌<◌}
use native.Mathlib.Omega.{arith}
use mathlib.Core.Path.{◌≡◌, refl, sym, ap, ap₂, ◌∙◌}
use mathlib.Core.List.{List, [], ◌∷◌, ◌++◌}
use mathlib.Core.Bool.{Bool, true, false, not}
use lib.Dec.{leb, eqb}
use lib.ListN.{length, take, drop}
use lib.Seq.{take_at, drop_at, drop-drop}
use Rattle.model.specs.Limits.{max_lists, max_shelf}
use Rattle.model.specs.Outcome.{refused, done}
use Rattle.model.specs.Post.{Post, last_doc}
use Rattle.model.specs.Runs.{Bytes}
use Rattle.model.proofs.Lists.{split}
use Rattle.block.specs.Body.{body_bytes}
use Rattle.block.proofs.Bodies.{body_round}
use Rattle.shelf.specs.Walk.{Listing, strip_of, list, lists}
use Rattle.shelf.specs.Check.{bad_body, bad_lists, checked}
use Rattle.std.specs.Prelude.{None}
use Rattle.shelf.proofs.Sounds.{or_none}
use Rattle.list.specs.Write.{packed, bodies_bytes, blocks_bytes, list_bytes, Word, writing, Words}
use Rattle.list.proofs.Writes.{Fines, blocks_for, blocks-size, written, writable_fine, written-strip, written_from, list-bytes, written-sound}
use Rattle.list.proofs.Canonical.{chunks}
use Rattle.change.specs.Bytes.{Piece, piece_of, pieces, joined, contents}
use Rattle.change.proofs.Pieces.{lists_inv, pieces-joined, checked-sound, sound-lists, standing_sound, pieces_hold}
use Rattle.convert.specs.Convert.{chunks_of, turned, turned_pieces, listed, turning, converted, turn_words, Turned}
use Rattle.convert.proofs.Layouts.{chunks_are, list_reads, own-bytes}
use Rattle.convert.proofs.Lists.{turned-rises, turned-count, turned-length, turned-holds}
use Rattle.convert.proofs.Seatings.{first_past, converted-sound}
use Rattle.convert.proofs.Alike.{read-there, cons_same}

module _ (t : ℕ) where
  -- ---- an accepted conversion

  turning-done : (s : List ℕ) (ls : List Listing) (room : ℕ) (v : List ℕ) → turning t s ls room ≡ done v → joined (turned_pieces t s ls) ≡ v
  unfolding turning
  turning-done s ls room v q =
      split (listed t ls)
      (λ h. split (leb (length (joined (turned_pieces t s ls))) room)
      (λ r. let f : done (joined (turned_pieces t s ls)) ≡ done v = rw (h, r) at q in (cc))
      (λ r. let f : refused 9 0 ≡ done v = rw (h, r) at q in let z : ◌≡◌ {A = ℕ} 0 1 = cc in absurd (omega arith)))
      (λ h. let f : refused 12 0 ≡ done v = rw h at q in let z : ◌≡◌ {A = ℕ} 0 1 = cc in absurd (omega arith))

  -- its bytes are the lists, the one of term t turned
  converted-bytes : (s : List ℕ) (old : List Listing) (room : ℕ) (v : List ℕ) → checked s ≡ done old → converted t s room ≡ done v → joined (turned_pieces t s old) ≡ v
  converted-bytes s old room v e q = turning-done s old room v (sym (converted-sound t s room old e) ∙ q)

  pub converted-leaves : (s : List ℕ) (old : List Listing) (room : ℕ) (v : List ℕ) → Bytes s → checked s ≡ done old → converted t s room ≡ done v → Turned t s old v
  converted-leaves s old room v h e q =
      let bytes = converted-bytes s old room v e q in
      let size : length v ≡ length s = sym (ap length bytes) ∙ turned-length t s old h e in
      let f = standing_sound v (turned_pieces t s old) bytes (turned-rises t s old h e) (omega (arith, turned-count t s old, sound-lists s old e)) (omega (arith, (checked-sound s old e).short)) in
      record { new = f.0; sound = f.1; kept = f.2; holds = sym (pieces_hold v f.0) ∙ ap contents f.2 ∙ turned-holds t s old; size = size }

-- ---- the blocks of a written list

pub chunks_round : (strip : Bool) (p a b : ℕ) (cs : List (List Post)) → Fines p cs → chunks_of (blocks_for strip a b cs) ≡ cs
chunks_round strip p a b [] f = refl
chunks_round strip p a b ([] ∷ cs) f = absurd f.0
chunks_round strip p a b ((x ∷ xs) ∷ cs) f =
    let small : last_doc x.doc xs < 128 ^ 4 = omega (arith, f.0.3) in
    rw (body_round strip x xs small f.0.0.1 f.0.1)
    (ap {B = List (List Post)} (λ ds. (x ∷ xs) ∷ ds) (chunks_round strip (last_doc x.doc xs) (a + 12) (b + (3 + length (body_bytes strip (x ∷ xs)))) cs f.1))

-- ---- a writing

module _ (t : ℕ) where
  pub turned-words : (floor : ℕ) (ws : List Word) → Words floor ws → Words floor (turn_words t ws)
  turned-words floor [] ok = tt
  turned-words floor (w ∷ ws) ok =
      let ih = turned-words (w.term + 1) ws ok.3 in
      split (eqb w.term t) (λ q. rw q (ok.0, ok.1, ok.2, ih)) (λ q. rw q (ok.0, ok.1, ok.2, ih))

  turned-from : (floor at : ℕ) (s : List ℕ) (ws : List Word) → Words floor ws → drop at s ≡ writing ws → joined (turned_pieces t s (written_from at ws)) ≡ writing (turn_words t ws)
  unfolding writing
  turned-from floor at s [] ok d = refl
  turned-from floor at s (w ∷ ws) ok d =
      let cs = packed 64 w.posts in
      let strip = w.strip in
      let own = list_bytes strip w.term w.posts in
      let size : length own ≡ 8 + 12 * length cs + length (bodies_bytes strip cs) = ap length (list-bytes strip w.term w.posts) ∙ blocks-size strip w.term cs in
      let next : at + 8 + 12 * length cs + length (bodies_bytes strip cs) - at ≡ length own = omega arith in
      let past : drop (at + length own) s ≡ writing ws = sym (drop-drop (length own) at s) ∙ ap (λ (x : List ℕ). drop (length own) x) d ∙ drop_at own (writing ws) (length own) refl in
      let ih = turned-from (w.term + 1) (at + length own) s ws ok.3 past in
      let kept : take (at + 8 + 12 * length cs + length (bodies_bytes strip cs) - at) (drop at s) ≡ own = rw (next, d) (take_at own (writing ws) (length own) refl) in
      let lay = written-strip strip w.term at w.posts ok.2 in
      let blocks = chunks_round strip 0 (at + 8) (at + 8 + 12 * length cs) cs (writable_fine w.posts ok.2) in
      let other : (turned (written strip w.term at cs)).bytes ≡ list_bytes (not strip) w.term w.posts =
      ap₂ (λ (x : Bool) (ds : List (List Post)). blocks_bytes (not x) w.term ds) lay blocks ∙ sym (list-bytes (not strip) w.term w.posts) in
      split (eqb w.term t)
      (λ q. rw q (ap₂ (λ (x : List ℕ) (y : List ℕ). x ++ y) other ih))
      (λ q. rw q (ap₂ (λ (x : List ℕ) (y : List ℕ). x ++ y) kept ih))

  -- one writing of a shelf is turned to one writing
  pub turned-writing : (s : List ℕ) (ws : List Word) (room : ℕ) (v : List ℕ) → s ≡ writing ws → Words 0 ws → length ws ≤ max_lists → length (writing ws) ≤ max_shelf → converted t s room ≡ done v →
      (v ≡ writing (turn_words t ws)) × Words 0 (turn_words t ws)
  turned-writing s ws room v e ok few small q =
      let sound : checked s ≡ done (written_from 0 ws) = ap checked e ∙ written-sound ws ok few small in
      (sym (converted-bytes t s (written_from 0 ws) room v sound q) ∙ turned-from 0 0 s ws ok e, turned-words 0 ws ok)

-- ---- converted twice

not-not : (x : Bool) → not (not x) ≡ x
not-not true = refl
not-not false = refl

-- a list that reads where a turned list stands is that list, so that turned it has the bytes of the first
turned_back : (floor at floor' at' : ℕ) (s v r : List ℕ) (l m : Listing) → Bytes s → list floor at (drop at s) ≡ done l → bad_body l.blocks ≡ None → list floor' at' (drop at' v) ≡ done m →
    (piece_of v m).bytes ++ r ≡ drop at' v → piece_of v m ≡ turned l → (turned m).bytes ≡ (piece_of s l).bytes
turned_back floor at floor' at' s v r l m h e b f d q =
    let strip = strip_of l.blocks in
    let t = l.place.term in
    let cs = chunks l.blocks in
    let term : m.place.term ≡ t = ap (λ (x : Piece). x.term) q in
    let lay : strip_of m.blocks ≡ not strip = ap (λ (x : Piece). x.strip) q in
    let same : m ≡ written (not strip) t at' cs = read-there floor at s l h e b floor' at' v r m f d term (not strip) (ap (λ (x : Piece). x.bytes) q) in
    let blocks : chunks_of m.blocks ≡ chunks_of l.blocks =
    ap (λ (x : Listing). chunks_of x.blocks) same ∙ chunks_round (not strip) 0 (at' + 8) (at' + 8 + 12 * length cs) cs (list_reads floor at s l h e b).fine ∙ sym (chunks_are l.blocks) in
    let layout : not (strip_of m.blocks) ≡ strip = ap not lay ∙ not-not strip in
    ap₂ (λ (x : Bool) (u : ℕ). blocks_bytes x u (chunks_of m.blocks)) layout term
    ∙ ap (λ (ds : List (List Post)). blocks_bytes strip t ds) blocks ∙ sym (own-bytes floor at s l h e b)

module _ (t : ℕ) where
  twice : (n floor at n' floor' at' : ℕ) (s v : List ℕ) (ls ms : List Listing) → Bytes s → lists n floor at (drop at s) ≡ done ls → bad_lists ls ≡ None → lists n' floor' at' (drop at' v) ≡ done ms →
      pieces v ms ≡ turned_pieces t s ls → joined (turned_pieces t v ms) ≡ joined (pieces s ls)
  twice n floor at n' floor' at' s v [] [] h e b f q = refl
  twice n floor at n' floor' at' s v [] (m ∷ ms) h e b f q = absurd (omega (arith, ap length q))
  twice n floor at n' floor' at' s v (l ∷ ls) [] h e b f q = absurd (omega (arith, ap length q, turned-count t s (l ∷ ls)))
  twice n floor at n' floor' at' s v (l ∷ ls) (m ∷ ms) h e b f q =
      let i = lists_inv n floor at s l ls e in
      let j = lists_inv n' floor' at' v m ms f in
      let o = or_none (bad_body l.blocks) (bad_lists ls) b in
      let past = first_past n' floor' at' v m ms f in
      let ih : pieces v ms ≡ turned_pieces t s ls → joined (turned_pieces t v ms) ≡ joined (pieces s ls) =
      twice (n - 1) (l.place.term + 1) l.place.next (n' - 1) (m.place.term + 1) m.place.next s v ls ms h i.left o.1 j.left in
      split (eqb l.place.term t)
      (λ k.
      let x : piece_of v m ∷ pieces v ms ≡ turned l ∷ turned_pieces t s ls = rw k at q in
      let c = cons_same (piece_of v m) (turned l) (pieces v ms) (turned_pieces t s ls) x in
      let k1 : eqb m.place.term t ≡ true = ap (λ (y : Piece). eqb y.term t) c.0 ∙ k in
      rw k1 (ap₂ (λ (a : List ℕ) (z : List ℕ). a ++ z) (turned_back floor at floor' at' s v (drop m.place.next v) l m h i.reads o.0 j.reads past c.0) (ih c.1)))
      (λ k.
      let x : piece_of v m ∷ pieces v ms ≡ piece_of s l ∷ turned_pieces t s ls = rw k at q in
      let c = cons_same (piece_of v m) (piece_of s l) (pieces v ms) (turned_pieces t s ls) x in
      let k1 : eqb m.place.term t ≡ false = ap (λ (y : Piece). eqb y.term t) c.0 ∙ k in
      rw k1 (ap₂ (λ (a : Piece) (z : List ℕ). a.bytes ++ z) c.0 (ih c.1)))

  -- "block by block": a second conversion gives back the shelf, byte for byte
  pub turned_twice : (s : List ℕ) (old : List Listing) (room room' : ℕ) (v u : List ℕ) → Bytes s → checked s ≡ done old → converted t s room ≡ done v → converted t v room' ≡ done u → u ≡ s
  turned_twice s old room room' v u h e q r =
      let w = converted-leaves t s old room v h e q in
      let o = checked-sound s old e in
      let c = checked-sound v w.new w.sound in
      sym (converted-bytes t v w.new room' u w.sound r) ∙ twice 1024 0 0 1024 0 0 s v old w.new h o.reads o.right c.reads w.kept ∙ pieces-joined 1024 0 0 s old o.reads
