-- The list of a term in a sound shelf, as the code finds it: its bodies, written over in place, give the turned shelf; and the refusals in their order.
-- Assumes nothing.
use Prim.Native.Nat.{ℕ, suc, ◌+◌, ◌-◌, ◌*◌, ◌≤◌, ◌<◌}
use native.Mathlib.Omega.{arith}
use mathlib.Core.Path.{◌≡◌, refl, sym, ap, ap₂, subst, ◌∙◌}
use mathlib.Core.List.{List, [], ◌∷◌, ◌++◌, append_assoc}
use mathlib.Core.Bool.{Bool, true, false, not}
use borrow.Author.Tests.{ltb-true, eqb-true, eqb-false, eq-eqb, ne_eqb, le-leb, lt-leb}
use lib.Dec.{ltb, eqb}
use lib.ListN.{length, take, drop, set, length-append, length-drop, length-set}
use lib.Seq.{sets, take_all, drop_at, set-append_left}
use Rattle.model.specs.Outcome.{Outcome, refused, done, and_then}
use Rattle.model.specs.Post.{Post, last_doc}
use Rattle.model.specs.Runs.{All, Stored, Bytes}
use Rattle.model.proofs.Lists.{split}
use Rattle.model.proofs.Storing.{sets-front}
use Rattle.wire.specs.Number.{be}
use Rattle.wire.specs.Field.{field_bytes}
use Rattle.block.proofs.Summaries.{right_facts}
use Rattle.shelf.specs.Walk.{Block, Listing, strip_of, lists, blocks_at}
use Rattle.shelf.specs.Check.{bad_body, bad_lists, checked, judged}
use Rattle.shelf.specs.Answers.{Ready}
use Rattle.shelf.specs.declared.walk.Place.{Place}
use Rattle.std.specs.Prelude.{None}
use Rattle.shelf.proofs.Walks.{list-walked}
use Rattle.lookup.proofs.Tables.{blocks-length}
use Rattle.shelf.proofs.Sounds.{Good, Listed, or_none, sound-good}
use Rattle.list.specs.Write.{sums_bytes, bodies_bytes, blocks_bytes}
use Rattle.list.specs.Answer.{Gives}
use Rattle.std.specs.Prelude.{Ok}
use Rattle.list.proofs.Writes.{Fines, blocks-size}
use Rattle.list.proofs.WritesBack.{fine_few}
use Rattle.list.proofs.Canonical.{chunk, chunks, chunks_length}
use Rattle.change.specs.Bytes.{Piece, piece_of, pieces, joined}
use Rattle.change.specs.Seat.{seat_of}
use Rattle.change.specs.declared.seat.Seat.TheVariants.{Taken, Free}
use Rattle.change.proofs.Pieces.{lists_inv, pieces-joined, checked-sound}
use Rattle.convert.specs.Convert.{chunks_of, turned, turned_pieces, listed, turning, converted, turned_bodies, Fit, Turnable}
use Rattle.convert.proofs.Layouts.{chunks_are, bodies-even, sums-even, list_reads, own-bytes}
use Rattle.convert.proofs.Lists.{turned-length}

-- ---- a run of stores in a part

sets-left : (xs ys : List ℕ) (i : ℕ) (vs : List ℕ) → i + length vs ≤ length xs → sets (xs ++ ys) i vs ≡ sets xs i vs ++ ys
sets-left xs ys i [] h = refl
sets-left xs ys i (v ∷ vs) h =
    rw (set-append_left xs ys i v (omega arith)) (sets-left (set xs i v) ys (suc i) vs (omega (arith, length-set xs i v)))

sets-right : (xs ys : List ℕ) (i : ℕ) (vs : List ℕ) → sets (xs ++ ys) (length xs + i) vs ≡ xs ++ sets ys i vs
sets-right [] ys i vs = let z : 0 + i ≡ i = omega arith in ap (λ (k : ℕ). sets ys k vs) z
sets-right (x ∷ xs) ys i vs =
    let z : suc (length xs) + i ≡ suc (length xs + i) = omega arith in
    ap (λ (k : ℕ). sets (x ∷ (xs ++ ys)) k vs) z ∙ further x (xs ++ ys) (length xs + i) vs ∙ ap {B = List ℕ} (λ zs. x ∷ zs) (sets-right xs ys i vs)
  where
    further : (x : ℕ) (l : List ℕ) (i : ℕ) (vs : List ℕ) → sets (x ∷ l) (suc i) vs ≡ x ∷ sets l i vs
    further x l i [] = refl
    further x l i (v ∷ vs) = further x (set l i v) (suc i) vs

-- b' in place of b, between a and c
sets-between : (a b b' c : List ℕ) → length b' ≡ length b → sets (a ++ (b ++ c)) (length a + 0) b' ≡ a ++ (b' ++ c)
sets-between a b b' c e = sets-right a (b ++ c) 0 b' ∙ ap (λ (x : List ℕ). a ++ x) (sets-front (b ++ c) b' (omega (arith, length-append b c)) ∙ ap (λ (x : List ℕ). b' ++ x) (drop_at b c (length b') (sym e)))

-- ---- a list, its bodies written over

-- what stands before the bodies
heading : (strip : Bool) (t : ℕ) (cs : List (List Post)) → List ℕ
heading strip t cs = field_bytes 1 (be 4 t ++ be 1 (length cs)) ++ sums_bytes strip cs

heading_bodies : (strip : Bool) (t : ℕ) (cs : List (List Post)) → heading strip t cs ++ bodies_bytes strip cs ≡ blocks_bytes strip t cs
unfolding heading blocks_bytes
heading_bodies strip t cs = append_assoc (field_bytes 1 (be 4 t ++ be 1 (length cs))) (sums_bytes strip cs) (bodies_bytes strip cs)

heading_even : (a b : Bool) (t : ℕ) (cs : List (List Post)) → heading a t cs ≡ heading b t cs
unfolding heading
heading_even a b t cs = ap (λ (x : List ℕ). field_bytes 1 (be 4 t ++ be 1 (length cs)) ++ x) (sums-even a b cs)

heading_size : (strip : Bool) (t : ℕ) (cs : List (List Post)) → length (heading strip t cs) ≡ 8 + 12 * length cs
heading_size strip t cs = omega (arith, blocks-size strip t cs, ap length (heading_bodies strip t cs), length-append (heading strip t cs) (bodies_bytes strip cs))

over : (a b : Bool) (t : ℕ) (cs : List (List Post)) (r : List ℕ) → sets (blocks_bytes a t cs ++ r) (8 + 12 * length cs) (bodies_bytes b cs) ≡ blocks_bytes b t cs ++ r
over a b t cs r =
    let k : 8 + 12 * length cs ≡ length (heading a t cs) + 0 = omega (arith, heading_size a t cs) in
    ap₂ (λ (x : List ℕ) (i : ℕ). sets x i (bodies_bytes b cs)) (ap (λ (x : List ℕ). x ++ r) (sym (heading_bodies a t cs)) ∙ append_assoc (heading a t cs) (bodies_bytes a cs) r) k
    ∙ sets-between (heading a t cs) (bodies_bytes a cs) (bodies_bytes b cs) r (bodies-even b a cs)
    ∙ ap (λ (x : List ℕ). x ++ (bodies_bytes b cs ++ r)) (heading_even a b t cs)
    ∙ sym (append_assoc (heading b t cs) (bodies_bytes b cs) r)
    ∙ ap (λ (x : List ℕ). x ++ r) (heading_bodies b t cs)

-- ---- where the list of term t is

-- its summaries are right
fit_all : (prev p : ℕ) (bs : List Block) → Good prev bs → Fines p (chunks bs) → All (λ (x : Block). length (chunk x.sum x.body) ≡ x.sum.count) bs → All (λ (x : Block). Fit x.sum) bs
fit_all prev p [] g f z = tt
fit_all prev p (b ∷ bs) g f z =
    let k = right_facts prev b.sum g.0 in
    let own : Fit b.sum = record { some = k.some; few = omega (arith, z.0, fine_few p (chunk b.sum b.body) f.0); above = omega (arith, k.above) } in
    (own, fit_all b.sum.greatest (last_doc p (chunk b.sum b.body)) bs g.3 f.1 z.1)

-- lists of higher terms are as they were
untouched : (t floor : ℕ) (s : List ℕ) (ls : List Listing) → Listed floor ls → t < floor → (turned_pieces t s ls ≡ pieces s ls) × (listed t ls ≡ false)
untouched t floor s [] w k = (refl, refl)
untouched t floor s (l ∷ ms) w k =
    let q : eqb l.place.term t ≡ false = ne_eqb l.place.term t (λ (z : l.place.term ≡ t). omega (arith, w.0)) in
    let ih = untouched t (l.place.term + 1) s ms w.2 (omega (arith, w.0)) in
    (rw q (ap {B = List Piece} (λ xs. piece_of s l ∷ xs) ih.0), rw q ih.1)

seat_none : (t floor at : ℕ) (ls : List Listing) (a : ℕ) → Listed floor ls → seat_of t at ls ≡ Free a → listed t ls ≡ false
seat_none t floor at [] a w e = refl
seat_none t floor at (l ∷ ms) a w e =
    split (ltb t l.place.term)
    (λ q. (untouched t l.place.term [] (l ∷ ms) (omega arith, w.1, w.2) (ltb-true _ _ q)).1)
    (λ q. split (eqb t l.place.term)
    (λ r. let g : Taken l.place ≡ Free a = rw (q, r) at e in let z : ◌≡◌ {A = ℕ} 0 1 = cc in absurd (omega arith))
    (λ r.
    let e1 : seat_of t l.place.next ms ≡ Free a = rw (q, r) at e in
    let n : eqb l.place.term t ≡ false = ne_eqb l.place.term t (λ (z : l.place.term ≡ t). eqb-false t l.place.term r (sym z)) in
    rw n (seat_none t (l.place.term + 1) l.place.next ms a w.2 e1)))

-- the first list and the bytes past it
pub first_past : (n floor at : ℕ) (s : List ℕ) (l : Listing) (ms : List Listing) → lists n floor at (drop at s) ≡ done (l ∷ ms) → (piece_of s l).bytes ++ drop l.place.next s ≡ drop at s
first_past n floor at s l ms e =
    let i = lists_inv n floor at s l ms e in
    ap (λ (x : List ℕ). (piece_of s l).bytes ++ x) (sym (pieces-joined (n - 1) (l.place.term + 1) l.place.next s ms i.left)) ∙ pieces-joined n floor at s (l ∷ ms) e

-- the list of term t among the lists from `at` on: its bodies written over give those lists with it turned
record Seated (s : List ℕ) (t at : ℕ) (ls : List Listing) (p : Place) : Type 0 where
  after : at ≤ p.at
  ready : Ready s p
  fit : All (λ (b : Block). Fit b.sum) (blocks_at s p.at p.count)
  right : bad_body (blocks_at s p.at p.count) ≡ None
  there : listed t ls ≡ true
  within : p.at + 8 + 12 * p.count + length (turned_bodies (blocks_at s p.at p.count)) ≤ length s
  bytes : sets (drop at s) (p.at - at + (8 + 12 * p.count)) (turned_bodies (blocks_at s p.at p.count)) ≡ joined (turned_pieces t s ls)

module _ (t n floor at : ℕ) (s : List ℕ) (l : Listing) (ms : List Listing) (h : Bytes s) (e : lists n floor at (drop at s) ≡ done (l ∷ ms)) (b : bad_lists (l ∷ ms) ≡ None) (g : Listed floor (l ∷ ms)) where
  past : (piece_of s l).bytes ++ drop l.place.next s ≡ drop at s
  past = first_past n floor at s l ms e

  seat_here : t ≡ l.place.term → Seated s t at (l ∷ ms) l.place
  seat_here q =
      let i = lists_inv n floor at s l ms e in
      let o = or_none (bad_body l.blocks) (bad_lists ms) b in
      let w = list-walked floor at s l i.reads in
      let r = list_reads floor at s l h i.reads o.0 in
      let strip = strip_of l.blocks in
      let cs = chunks_of l.blocks in
      let own : blocks_at s l.place.at l.place.count ≡ l.blocks = ap (λ (k : ℕ). blocks_at s k l.place.count) w.start ∙ sym w.blocks in
      let bytes = own-bytes floor at s l h i.reads o.0 in
      let count : length cs ≡ l.place.count = ap length (chunks_are l.blocks) ∙ chunks_length l.blocks ∙ sym (ap length own) ∙ blocks-length s l.place.at l.place.count in
      let far : l.place.at - at + (8 + 12 * l.place.count) ≡ 8 + 12 * length cs = omega (arith, w.start) in
      let whole : drop at s ≡ blocks_bytes strip l.place.term cs ++ drop l.place.next s = sym past ∙ ap (λ (x : List ℕ). x ++ drop l.place.next s) bytes in
      let rest : joined (turned_pieces t s ms) ≡ drop l.place.next s = ap joined (untouched t (l.place.term + 1) s ms g.2 (omega arith)).0 ∙ pieces-joined (n - 1) (l.place.term + 1) l.place.next s ms i.left in
      let same : eqb l.place.term t ≡ true = eq-eqb l.place.term t (sym q) in
      let tail : joined (turned l ∷ turned_pieces t s ms) ≡ blocks_bytes (not strip) l.place.term cs ++ drop l.place.next s = ap (λ (x : List ℕ). blocks_bytes (not strip) l.place.term cs ++ x) rest in
      record {
        after = omega (arith, w.start);
        ready = w.ready;
        fit = rw own (fit_all 0 0 l.blocks g.1 r.fine r.sized);
        right = rw own o.0;
        there = rw same;
        within = rw own (omega (arith, w.start, count, ap length whole, length-append (blocks_bytes strip l.place.term cs) (drop l.place.next s), blocks-size strip l.place.term cs, bodies-even strip (not strip) cs, length-drop at s, i.inside));
        bytes = rw (own, far, whole, same) (over strip (not strip) l.place.term cs (drop l.place.next s) ∙ sym tail);
      }

  seat_later : (p : Place) → eqb l.place.term t ≡ false → Seated s t l.place.next ms p → Seated s t at (l ∷ ms) p
  seat_later p q d =
      let i = lists_inv n floor at s l ms e in
      let w = list-walked floor at s l i.reads in
      let v = turned_bodies (blocks_at s p.at p.count) in
      let front = (piece_of s l).bytes in
      let size : length front ≡ l.place.next - at = omega (arith, ap length past, length-append front (drop l.place.next s), length-drop at s, length-drop l.place.next s, w.above, w.within) in
      let far : p.at - at + (8 + 12 * p.count) ≡ length front + (p.at - l.place.next + (8 + 12 * p.count)) = omega (arith, d.after, w.above) in
      record {
        after = omega (arith, d.after, w.above);
        ready = d.ready;
        fit = d.fit;
        right = d.right;
        there = rw q d.there;
        within = d.within;
        bytes = rw (far, ← past, q) (sets-right front (drop l.place.next s) (p.at - l.place.next + (8 + 12 * p.count)) v ∙ ap (λ (x : List ℕ). front ++ x) d.bytes);
      }

seated : (t n floor at : ℕ) (s : List ℕ) (ls : List Listing) (p : Place) → Bytes s → lists n floor at (drop at s) ≡ done ls → bad_lists ls ≡ None → Listed floor ls → seat_of t at ls ≡ Taken p → Seated s t at ls p
seated t n floor at s [] p h e b g q = let z : ◌≡◌ {A = ℕ} 0 1 = cc in absurd (omega arith)
seated t n floor at s (l ∷ ms) p h e b g q =
    split (ltb t l.place.term)
    (λ k. let f : Free at ≡ Taken p = rw k at q in let z : ◌≡◌ {A = ℕ} 0 1 = cc in absurd (omega arith))
    (λ k. split (eqb t l.place.term)
    (λ r.
    let f : Taken l.place ≡ Taken p = rw (k, r) at q in
    let z : l.place ≡ p = cc in
    subst (λ (x : Place). Seated s t at (l ∷ ms) x) z (seat_here t n floor at s l ms h e b g (eqb-true _ _ r)))
    (λ r.
    let f : seat_of t l.place.next ms ≡ Taken p = rw (k, r) at q in
    let i = lists_inv n floor at s l ms e in
    let o = or_none (bad_body l.blocks) (bad_lists ms) b in
    let d : eqb l.place.term t ≡ false = ne_eqb l.place.term t (λ (z : l.place.term ≡ t). eqb-false t l.place.term r (sym z)) in
    seat_later t n floor at s l ms h e b g p d (seated t (n - 1) (l.place.term + 1) l.place.next s ms p h i.left o.1 g.2 f)))

-- ---- what the code answers

module _ (t : ℕ) (s : List ℕ) (ls : List Listing) (room : ℕ) where
  turning-none : listed t ls ≡ false → turning t s ls room ≡ refused 12 0
  unfolding turning
  turning-none q = rw q

  turning_tight : listed t ls ≡ true → room < length (joined (turned_pieces t s ls)) → turning t s ls room ≡ refused 9 0
  unfolding turning
  turning_tight q k = rw (q, lt-leb (length (joined (turned_pieces t s ls))) room k)

  turning-whole : listed t ls ≡ true → length (joined (turned_pieces t s ls)) ≤ room → turning t s ls room ≡ done (joined (turned_pieces t s ls))
  unfolding turning
  turning-whole q k = rw (q, le-leb (length (joined (turned_pieces t s ls))) room k)

module _ (s : List ℕ) (ls : List Listing) (h : Bytes s) (e : checked s ≡ done ls) (t : ℕ) where
  pub refuses_none : (a room : ℕ) → Free a ≡ seat_of t 0 ls → turning t s ls room ≡ refused 12 0
  refuses_none a room q = turning-none t s ls room (seat_none t 0 0 ls a (sound-good s ls h e) (sym q))

  module _ (p : Place) (q : Taken p ≡ seat_of t 0 ls) where
    seat : Seated s t 0 ls p
    seat = let o = checked-sound s ls e in seated t 1024 0 0 s ls p h o.reads o.right (sound-good s ls h e) (sym q)

    pub refuses_tight : (room : ℕ) → room < length s → turning t s ls room ≡ refused 9 0
    refuses_tight room k = turning_tight t s ls room seat.there (omega (arith, turned-length t s ls h e))

    pub seat_turnable : (out : List ℕ) → length s ≤ length out → Turnable s p out
    seat_turnable out k = record { ready = seat.ready; fit = seat.fit; right = seat.right; room = k }

    -- the shelf copied to the front of a buffer, and the bodies written over
    pub seat_gives : (l m o : List ℕ) (r : ℕ) → length s ≤ length l → Stored l m 0 r (take (length s - 0) (drop 0 s)) →
        o ≡ sets m (p.at + 8 + 12 * p.count) (turned_bodies (blocks_at s p.at p.count)) → Gives (turning t s ls (length l)) l o (Ok r)
    seat_gives l m o r k c w =
        let v = turned_bodies (blocks_at s p.at p.count) in
        let j = joined (turned_pieces t s ls) in
        let size = turned-length t s ls h e in
        let all : take (length s - 0) (drop 0 s) ≡ s = take_all (length s - 0) s (omega arith) in
        let copied : m ≡ s ++ drop (length s) l = c.whole ∙ ap (λ (x : List ℕ). sets l 0 x) all ∙ sets-front l s k in
        let z : p.at - 0 + (8 + 12 * p.count) ≡ p.at + 8 + 12 * p.count = omega arith in
        let turns : sets s (p.at + 8 + 12 * p.count) v ≡ j = ap (λ (x : ℕ). sets s x v) (sym z) ∙ seat.bytes in
        let whole : o ≡ j ++ drop (length j) l =
        w ∙ ap (λ (x : List ℕ). sets x (p.at + 8 + 12 * p.count) v) copied ∙ sets-left s (drop (length s) l) (p.at + 8 + 12 * p.count) v seat.within
        ∙ ap₂ (λ (x : List ℕ) (n : ℕ). x ++ drop n l) turns (sym size) in
        rw (turning-whole t s ls (length l) seat.there (omega arith))
        (record { answers = ap done (c.past ∙ omega (arith, ap length all)); holds = whole })

-- ---- what the checker says comes first

module _ (t : ℕ) (s : List ℕ) (room : ℕ) where
  pub converted-sound : (ls : List Listing) → checked s ≡ done ls → converted t s room ≡ turning t s ls room
  unfolding converted
  converted-sound ls c = rw c

  pub converted-fault : (n o : ℕ) → judged (checked s) ≡ refused n o → converted t s room ≡ refused n o
  unfolding converted
  converted-fault n o j = go (checked s) j
    where
      go : (r : Outcome (List Listing)) → judged r ≡ refused n o → and_then r (λ ls. turning t s ls room) ≡ refused n o
      go (refused k p) q = let f : k ≡ n = cc in let g : p ≡ o = cc in rw (f, g)
      go (done ls) q = let z : ◌≡◌ {A = ℕ} 0 1 = cc in absurd (omega arith)
