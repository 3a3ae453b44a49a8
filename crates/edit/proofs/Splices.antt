-- An edit of one list in place: the bytes before it, the list packed anew or none, the bytes after it. Assumes nothing.
use Prim.Native.Nat.{ℕ, suc, ◌+◌, ◌-◌, ◌≤◌, ◌<◌}
use native.Mathlib.Omega.{arith}
use mathlib.Core.Path.{◌≡◌, refl, sym, ap, subst, ◌∙◌}
use mathlib.Core.List.{List, [], ◌∷◌, ◌++◌, append_assoc, append-nil}
use mathlib.Core.Bool.{Bool, true, false, false≢true, cond, ◌&&◌}
use borrow.Author.Tests.{ltb-true, ltb-false, lt-ltb, le-ltb, le-leb, eqb-true, eqb-false, eq-eqb, ne_eqb}
use lib.Dec.{leb, ltb, eqb}
use lib.ListN.{length, take, drop, length-append}
use lib.Seq.{take-add}
use Rattle.model.specs.Limits.{max_postings, max_lists}
use Rattle.model.specs.Outcome.{refused, done}
use Rattle.model.specs.Post.{Post, post, docs}
use Rattle.model.specs.Runs.{All, has, Bytes}
use Rattle.model.proofs.Lists.{split, or_false, All_map}
use Rattle.shelf.specs.Walk.{Listing, list, lists, posts_of, blocks_at, strip_of}
use Rattle.shelf.specs.Check.{bad_body, bad_lists, checked}
use Rattle.shelf.specs.Answers.{Ready}
use Rattle.shelf.specs.declared.walk.Place.{Place}
use Rattle.std.specs.Prelude.{None}
use Rattle.shelf.proofs.Walks.{list-walked}
use Rattle.shelf.proofs.Sounds.{or_none}
use Rattle.list.specs.Write.{Writable, Words, words_of, list_bytes}
use Rattle.list.proofs.Shelves.{sound-words}
use Rattle.change.specs.Edits.{Edit, Set, Clear, set_post, clear_post, only}
use Rattle.change.specs.Bytes.{Piece, piece_of, pieces, joined, anew, set_piece, anew_unless_empty, holds, clear_pieces, changed, some, there, few, within, settled}
use Rattle.change.specs.Seat.{seat_of, held_by, packed_bytes, spliced, fitting, placed}
use Rattle.change.specs.declared.seat.Seat.{Seat}
use Rattle.change.proofs.Postings.{set-some, clear-length}
use Rattle.change.specs.declared.seat.Seat.TheVariants.{Taken, Free}
use Rattle.change.proofs.Pieces.{lists_inv, pieces-joined, checked-sound, sound-lists, sound-rises}
use Rattle.edit.proofs.Changes.{rises-few}

-- ---- the pieces before and after the seat of term t

-- lists from `at` on, among them the one at place p
pub record Taking (s : List ℕ) (ls : List Listing) (at t : ℕ) (p : Place) : Type 0 where
  pub before : List Piece
  pub after : List Piece
  pub here : Piece
  pub is : pieces s ls ≡ before ++ here ∷ after
  pub low : All (λ (x : Piece). x.term < t) before
  pub high : All (λ (x : Piece). t < x.term) after
  pub term : here.term ≡ t
  pub posts : here.posts ≡ posts_of (blocks_at s p.at p.count)
  pub layout : here.strip ≡ strip_of (blocks_at s p.at p.count)
  pub front : take at s ++ joined before ≡ take p.at s
  pub back : joined after ≡ drop p.next s
  pub ready : Ready s p
  pub right : bad_body (blocks_at s p.at p.count) ≡ None
  pub may : Writable (posts_of (blocks_at s p.at p.count))
  pub order : p.at ≤ p.next
  pub inside : p.next ≤ length s

-- lists from `at` on, among them none of term t, which would stand at a
pub record Freeing (s : List ℕ) (ls : List Listing) (at t a : ℕ) : Type 0 where
  pub before : List Piece
  pub after : List Piece
  pub is : pieces s ls ≡ before ++ after
  pub low : All (λ (x : Piece). x.term < t) before
  pub high : All (λ (x : Piece). t < x.term) after
  pub front : take at s ++ joined before ≡ take a s
  pub back : joined after ≡ drop a s
  pub inside : a ≤ length s

words_high : (floor t : ℕ) (s : List ℕ) (ls : List Listing) → t < floor → Words floor (words_of ls) → All (λ (x : Piece). t < x.term) (pieces s ls)
words_high floor t s [] h ok = tt
words_high floor t s (l ∷ ls) h ok = (omega (arith, ok.0), words_high (l.place.term + 1) t s ls (omega (arith, ok.0)) ok.3)

-- past one list
past-list : (floor at : ℕ) (s : List ℕ) (l : Listing) (before : List Piece) (a : ℕ) → list floor at (drop at s) ≡ done l → take l.place.next s ++ joined before ≡ take a s →
    take at s ++ joined (piece_of s l ∷ before) ≡ take a s
past-list floor at s l before a e f =
    let w = list-walked floor at s l e in
    let k = l.place.next - at in
    let q : at + k ≡ l.place.next = omega (arith, w.above) in
    let own : take at s ++ take k (drop at s) ≡ take l.place.next s = sym (take-add at k s) ∙ ap {B = List ℕ} (λ n. take n s) q in
    rw (w.start, ← append_assoc (take at s) (take k (drop at s)) (joined before), own) f

taken : (n floor at t : ℕ) (s : List ℕ) (ls : List Listing) (p : Place) → lists n floor at (drop at s) ≡ done ls → bad_lists ls ≡ None → Words floor (words_of ls) →
    seat_of t at ls ≡ Taken p → Taking s ls at t p
taken n floor at t s [] p e b g q = let z : ◌≡◌ {A = ℕ} 0 1 = cc in absurd (omega arith)
taken n floor at t s (l ∷ ms) p e b g q =
    let i = lists_inv n floor at s l ms e in
    let w = list-walked floor at s l i.reads in
    let o = or_none (bad_body l.blocks) (bad_lists ms) b in
    split (ltb t l.place.term)
    (λ c. let f : Free at ≡ Taken p = rw c at q in let z : ◌≡◌ {A = ℕ} 0 1 = cc in absurd (omega arith))
    (λ c. split (eqb t l.place.term)
    (λ d.
    let f : Taken l.place ≡ Taken p = rw (c, d) at q in
    let same : l.place ≡ p = cc in
    let tt1 : t ≡ l.place.term = eqb-true _ _ d in
    let bl : l.blocks ≡ blocks_at s l.place.at l.place.count = rw w.start w.blocks in
    subst (λ (x : Place). Taking s (l ∷ ms) at t x) same
    (record {
      before = [];
      after = pieces s ms;
      here = piece_of s l;
      is = refl;
      low = tt;
      high = words_high (l.place.term + 1) t s ms (omega arith) g.3;
      term = sym tt1;
      posts = ap {B = List Post} posts_of bl;
      layout = ap strip_of bl;
      front = rw w.start (append-nil (take at s));
      back = pieces-joined (n - 1) (l.place.term + 1) l.place.next s ms i.left;
      ready = w.ready;
      right = rw bl at o.0;
      may = rw bl at g.2;
      order = omega (arith, w.start, w.above);
      inside = w.within;
    }))
    (λ d.
    let f : seat_of t l.place.next ms ≡ Taken p = rw (c, d) at q in
    let r = taken (n - 1) (l.place.term + 1) l.place.next t s ms p i.left o.1 g.3 f in
    record {
      before = piece_of s l ∷ r.before;
      after = r.after;
      here = r.here;
      is = ap {B = List Piece} (λ x. piece_of s l ∷ x) r.is;
      low = (omega (arith, ltb-false t l.place.term c, eqb-false t l.place.term d), r.low);
      high = r.high;
      term = r.term;
      posts = r.posts;
      layout = r.layout;
      front = past-list floor at s l r.before p.at i.reads r.front;
      back = r.back;
      ready = r.ready;
      right = r.right;
      may = r.may;
      order = r.order;
      inside = r.inside;
    }))

freed : (n floor at t : ℕ) (s : List ℕ) (ls : List Listing) (a : ℕ) → at ≤ length s → lists n floor at (drop at s) ≡ done ls → bad_lists ls ≡ None → Words floor (words_of ls) →
    seat_of t at ls ≡ Free a → Freeing s ls at t a
freed n floor at t s [] a h e b g q =
    let z : at ≡ a = cc in
    subst (λ (x : ℕ). Freeing s [] at t x) z
    (record { before = []; after = []; is = refl; low = tt; high = tt; front = append-nil (take at s); back = pieces-joined n floor at s [] e; inside = h })
freed n floor at t s (l ∷ ms) a h e b g q =
    let i = lists_inv n floor at s l ms e in
    let w = list-walked floor at s l i.reads in
    let o = or_none (bad_body l.blocks) (bad_lists ms) b in
    split (ltb t l.place.term)
    (λ c.
    let f : Free at ≡ Free a = rw c at q in
    let z : at ≡ a = cc in
    let lt : t < l.place.term = ltb-true t l.place.term c in
    subst (λ (x : ℕ). Freeing s (l ∷ ms) at t x) z
    (record {
      before = [];
      after = pieces s (l ∷ ms);
      is = refl;
      low = tt;
      high = (lt, words_high (l.place.term + 1) t s ms (omega arith) g.3);
      front = append-nil (take at s);
      back = pieces-joined n floor at s (l ∷ ms) e;
      inside = h;
    }))
    (λ c. split (eqb t l.place.term)
    (λ d. let f : Taken l.place ≡ Free a = rw (c, d) at q in let z : ◌≡◌ {A = ℕ} 0 1 = cc in absurd (omega arith))
    (λ d.
    let f : seat_of t l.place.next ms ≡ Free a = rw (c, d) at q in
    let r = freed (n - 1) (l.place.term + 1) l.place.next t s ms a w.within i.left o.1 g.3 f in
    record {
      before = piece_of s l ∷ r.before;
      after = r.after;
      is = ap {B = List Piece} (λ x. piece_of s l ∷ x) r.is;
      low = (omega (arith, ltb-false t l.place.term c, eqb-false t l.place.term d), r.low);
      high = r.high;
      front = past-list floor at s l r.before a i.reads r.front;
      back = r.back;
      inside = r.inside;
    }))

module _ (s : List ℕ) (ls : List Listing) (b : Bytes s) (e : checked s ≡ done ls) (t : ℕ) where
  pub seat_taken : (p : Place) → seat_of t 0 ls ≡ Taken p → Taking s ls 0 t p
  seat_taken p q = let o = checked-sound s ls e in taken 1024 0 0 t s ls p o.reads o.right (sound-words s ls b e) q

  pub seat_free : (a : ℕ) → seat_of t 0 ls ≡ Free a → Freeing s ls 0 t a
  seat_free a q = let o = checked-sound s ls e in freed 1024 0 0 t s ls a (omega arith) o.reads o.right (sound-words s ls b e) q

-- ---- the edit there

joined-append : (xs ys : List Piece) → joined (xs ++ ys) ≡ joined xs ++ joined ys
joined-append [] ys = refl
joined-append (x ∷ xs) ys = rw (joined-append xs ys) (sym (append_assoc x.bytes (joined xs) (joined ys)))

few-append : (xs ys : List Piece) → few xs ≡ true → few (xs ++ ys) ≡ few ys
few-append [] ys e = refl
few-append (x ∷ xs) ys e =
    split (leb (length x.posts) max_postings)
    (λ t. rw t (few-append xs ys (rw t at e)))
    (λ t. let z : false ≡ true = rw t at e in absurd (false≢true z))

pub few-front : (xs ys : List Piece) → few (xs ++ ys) ≡ true → (few xs ≡ true) × (few ys ≡ true)
few-front [] ys e = (refl, e)
few-front (x ∷ xs) ys e =
    split (leb (length x.posts) max_postings)
    (λ t. let r = few-front xs ys (rw t at e) in (rw t r.0, r.1))
    (λ t. let z : false ≡ true = rw t at e in absurd (false≢true z))

-- 12 is out: the other two by the pieces and the bytes that the edit makes
pub settled_as : (e : Edit) (xs ys : List Piece) (room : ℕ) (v : List ℕ) (ok : Bool) → there e xs ≡ true → changed e xs ≡ ys → (few ys && leb (length ys) max_lists) ≡ ok → joined ys ≡ v →
    settled e xs room ≡ cond ok (fitting v room) (refused 11 0)
unfolding settled within
settled_as e xs ys room v ok h c f j =
    rw (h, c, j, ← f)
    (split (few ys)
    (λ a. split (leb (length ys) max_lists) (λ b. rw (a, b)) (λ b. rw (a, b)))
    (λ a. rw a))

set_at : (t d w : ℕ) (before : List Piece) (x : Piece) (after : List Piece) → All (λ (y : Piece). y.term < t) before → x.term ≡ t →
    set_piece t d w (before ++ x ∷ after) ≡ before ++ anew x.strip t (set_post d w x.posts) ∷ after
set_at t d w [] x after low e = rw (le-ltb t x.term (omega arith), eq-eqb t x.term (sym e))
set_at t d w (y ∷ ys) x after low e =
    rw (le-ltb t y.term (omega (arith, low.0)), ne_eqb t y.term (λ (z : t ≡ y.term). omega (arith, low.0)), set_at t d w ys x after low.1 e)

set_new : (t d w : ℕ) (before after : List Piece) → All (λ (y : Piece). y.term < t) before → All (λ (y : Piece). t < y.term) after →
    set_piece t d w (before ++ after) ≡ before ++ anew false t (post d w ∷ []) ∷ after
set_new t d w [] [] low high = refl
set_new t d w [] (x ∷ after) low high = rw (lt-ltb t x.term high.0)
set_new t d w (y ∷ ys) after low high =
    rw (le-ltb t y.term (omega (arith, low.0)), ne_eqb t y.term (λ (z : t ≡ y.term). omega (arith, low.0)), set_new t d w ys after low.1 high)

-- ---- one list of which a posting is cleared

pub settled-none : (e : Edit) (xs : List Piece) (room : ℕ) → there e xs ≡ false → settled e xs room ≡ refused 12 0
unfolding settled
settled-none e xs room h = rw h

module _ (t d : ℕ) where
  some-other : (xs : List Piece) → All (λ (x : Piece). x.term ≡ t → ⊥) xs → some (holds (only t) d) xs ≡ false
  some-other [] o = refl
  some-other (x ∷ xs) o = rw (ne_eqb x.term t o.0) (some-other xs o.1)

  some-past : (xs ys : List Piece) → All (λ (x : Piece). x.term ≡ t → ⊥) xs → some (holds (only t) d) (xs ++ ys) ≡ some (holds (only t) d) ys
  some-past [] ys o = refl
  some-past (x ∷ xs) ys o = rw (ne_eqb x.term t o.0) (some-past xs ys o.1)

  some_at : (before : List Piece) (x : Piece) (after : List Piece) → All (λ (y : Piece). y.term ≡ t → ⊥) before → All (λ (y : Piece). y.term ≡ t → ⊥) after → x.term ≡ t →
      some (holds (only t) d) (before ++ x ∷ after) ≡ has d (docs x.posts)
  some_at before x after o h e =
      some-past before (x ∷ after) o ∙ rw (eq-eqb x.term t e, some-other after h) (or_false (has d (docs x.posts)))

  clear-other : (xs : List Piece) → All (λ (x : Piece). x.term ≡ t → ⊥) xs → clear_pieces (only t) d xs ≡ xs
  clear-other [] o = refl
  clear-other (x ∷ xs) o = rw (ne_eqb x.term t o.0, clear-other xs o.1)

  clear-past : (xs ys : List Piece) → All (λ (x : Piece). x.term ≡ t → ⊥) xs → clear_pieces (only t) d (xs ++ ys) ≡ xs ++ clear_pieces (only t) d ys
  clear-past [] ys o = refl
  clear-past (x ∷ xs) ys o = rw (ne_eqb x.term t o.0, clear-past xs ys o.1)

  clear_at : (before : List Piece) (x : Piece) (after : List Piece) → All (λ (y : Piece). y.term ≡ t → ⊥) before → All (λ (y : Piece). y.term ≡ t → ⊥) after → x.term ≡ t → has d (docs x.posts) ≡ true →
      clear_pieces (only t) d (before ++ x ∷ after) ≡ before ++ anew_unless_empty x.strip t (clear_post d x.posts) after
  clear_at before x after o h e f =
      clear-past before (x ∷ after) o ∙ rw (eq-eqb x.term t e, f, clear-other after h, e)

pub joined-unless : (strip : Bool) (t : ℕ) (ps : List Post) (after : List Piece) → joined (anew_unless_empty strip t ps after) ≡ packed_bytes strip t ps ++ joined after
joined-unless strip t [] after = refl
joined-unless strip t (p ∷ ps) after = refl

pub few-unless : (strip : Bool) (t : ℕ) (ps : List Post) (after : List Piece) → few after ≡ true → length ps ≤ max_postings → few (anew_unless_empty strip t ps after) ≡ true
few-unless strip t [] after f h = f
few-unless strip t (p ∷ ps) after f h = rw (le-leb (length (p ∷ ps)) 6400 h) f

pub length-unless : (strip : Bool) (t : ℕ) (ps : List Post) (after : List Piece) → length (anew_unless_empty strip t ps after) ≤ suc (length after)
length-unless strip t [] after = omega arith
length-unless strip t (p ∷ ps) after = omega arith

-- ---- the settled edits, by the seat of their term

and_right : (a b : Bool) → b ≡ true → (a && b) ≡ a
and_right true b e = e
and_right false b e = refl

pub pieces-length : (s : List ℕ) (ls : List Listing) → length (pieces s ls) ≡ length ls
pieces-length s [] = refl
pieces-length s (l ∷ ls) = ap suc (pieces-length s ls)

-- a list packed anew between others that are few
few-between : (strip : Bool) (before after : List Piece) (t : ℕ) (ps : List Post) → few before ≡ true → few after ≡ true → few (before ++ anew strip t ps ∷ after) ≡ leb (length ps) max_postings
few-between strip before after t ps f g = few-append before (anew strip t ps ∷ after) f ∙ and_right (leb (length ps) max_postings) (few after) g

packed-some : (strip : Bool) (t : ℕ) (ps : List Post) → 0 < length ps → packed_bytes strip t ps ≡ list_bytes strip t ps
packed-some strip t [] h = absurd (omega arith)
packed-some strip t (p ∷ ps) h = refl

module _ (s : List ℕ) (ls : List Listing) (b : Bytes s) (e : checked s ≡ done ls) (t d : ℕ) (room : ℕ) where
  all-few : few (pieces s ls) ≡ true
  all-few = rises-few 0 (pieces s ls) (sound-rises s ls b e)

  set-taken : (w : ℕ) (p : Place) → Taking s ls 0 t p → settled (Set t d w) (pieces s ls) room ≡ placed s (length ls) (Taken p) t (set_post d w (posts_of (blocks_at s p.at p.count))) room
  unfolding changed there placed
  set-taken w p k =
      let ps = posts_of (blocks_at s p.at p.count) in
      let before = k.before in
      let after = k.after in
      let lay = strip_of (blocks_at s p.at p.count) in
      let z = anew lay t (set_post d w ps) in
      let split2 = few-front before (k.here ∷ after) (rw k.is at all-few) in
      let after-few = (few-front (k.here ∷ []) after split2.1).1 in
      let c : set_piece t d w (pieces s ls) ≡ before ++ z ∷ after = rw (k.is, set_at t d w before k.here after k.low k.term, k.posts, k.layout) in
      let size : length (before ++ z ∷ after) ≡ length ls = omega (arith, length-append before (z ∷ after), length-append before (k.here ∷ after), ap length k.is, pieces-length s ls) in
      let front : joined before ≡ take p.at s = k.front in
      let bytes : joined (before ++ z ∷ after) ≡ spliced s p.at p.next (packed_bytes lay t (set_post d w ps)) =
      rw (joined-append before (z ∷ after), front, k.back, packed-some lay t (set_post d w ps) (set-some d w ps)) in
      settled_as (Set t d w) (pieces s ls) (before ++ z ∷ after) room (spliced s p.at p.next (packed_bytes lay t (set_post d w ps)))
      (leb (length (set_post d w ps)) max_postings && leb (length ls) max_lists) refl c (rw (few-between lay before after t (set_post d w ps) split2.0 after-few, size)) bytes

  set_free : (w a : ℕ) → Freeing s ls 0 t a → settled (Set t d w) (pieces s ls) room ≡ placed s (length ls) (Free a) t (set_post d w []) room
  unfolding changed there placed
  set_free w a k =
      let before = k.before in
      let after = k.after in
      let z = anew false t (post d w ∷ []) in
      let split2 = few-front before after (rw k.is at all-few) in
      let c : set_piece t d w (pieces s ls) ≡ before ++ z ∷ after = rw k.is (set_new t d w before after k.low k.high) in
      let size : length (before ++ z ∷ after) ≡ suc (length ls) = omega (arith, length-append before (z ∷ after), length-append before after, ap length k.is, pieces-length s ls) in
      let front : joined before ≡ take a s = k.front in
      let bytes : joined (before ++ z ∷ after) ≡ spliced s a a (packed_bytes false t (post d w ∷ [])) = rw (joined-append before (z ∷ after), front, k.back) in
      settled_as (Set t d w) (pieces s ls) (before ++ z ∷ after) room (spliced s a a (packed_bytes false t (post d w ∷ [])))
      (leb (length (post d w ∷ [])) max_postings && leb (suc (length ls)) max_lists) refl c (rw (few-between false before after t (post d w ∷ []) split2.0 split2.1, size)) bytes

  pub settled-set : (w : ℕ) (seat : Seat) → seat ≡ seat_of t 0 ls → settled (Set t d w) (pieces s ls) room ≡ placed s (length ls) seat t (set_post d w (held_by s seat)) room
  settled-set w (Taken p) q = set-taken w p (seat_taken s ls b e t p (sym q))
  settled-set w (Free a) q = set_free w a (seat_free s ls b e t a (sym q))

  clear-taken : (p : Place) → Taking s ls 0 t p → settled (Clear t d) (pieces s ls) room
      ≡ cond (has d (docs (posts_of (blocks_at s p.at p.count)))) (placed s (length ls) (Taken p) t (clear_post d (posts_of (blocks_at s p.at p.count))) room) (refused 12 0)
  unfolding changed there placed
  clear-taken p k =
      let ps = posts_of (blocks_at s p.at p.count) in
      let qs = clear_post d ps in
      let lay = strip_of (blocks_at s p.at p.count) in
      let before = k.before in
      let after = k.after in
      let low : All (λ (x : Piece). x.term ≡ t → ⊥) before = All_map before (λ (x : Piece) (l : x.term < t) (z : x.term ≡ t). omega arith) k.low in
      let high : All (λ (x : Piece). x.term ≡ t → ⊥) after = All_map after (λ (x : Piece) (l : t < x.term) (z : x.term ≡ t). omega arith) k.high in
      let is-there : some (holds (only t) d) (pieces s ls) ≡ has d (docs ps) = rw (k.is, ← k.posts) (some_at t d before k.here after low high k.term) in
      split (has d (docs ps))
      (λ h.
      let ys = before ++ anew_unless_empty lay t qs after in
      let two = few-front before (k.here ∷ after) (rw k.is at all-few) in
      let after-few = (few-front (k.here ∷ []) after two.1).1 in
      let short : length qs ≤ max_postings = omega (arith, clear-length d ps, k.may.few) in
      let held : has d (docs k.here.posts) ≡ true = rw k.posts h in
      let c : clear_pieces (only t) d (pieces s ls) ≡ ys = rw (k.is, ← k.posts, ← k.layout) (clear_at t d before k.here after low high k.term held) in
      let most : length ls ≤ max_lists = sound-lists s ls e in
      let size : length ys ≤ max_lists = omega (arith, length-append before (anew_unless_empty lay t qs after), length-append before (k.here ∷ after), ap length k.is, pieces-length s ls, length-unless lay t qs after) in
      let front : joined before ≡ take p.at s = k.front in
      let bytes : joined ys ≡ spliced s p.at p.next (packed_bytes lay t qs) = rw (joined-append before (anew_unless_empty lay t qs after), joined-unless lay t qs after, front, k.back) in
      let ok : (few ys && leb (length ys) max_lists) ≡ true = rw (few-append before (anew_unless_empty lay t qs after) two.0, few-unless lay t qs after after-few short, le-leb (length ys) 1024 size) in
      rw (h, le-leb (length qs) 6400 short, le-leb (length ls) 1024 most)
      (settled_as (Clear t d) (pieces s ls) ys room (spliced s p.at p.next (packed_bytes lay t qs)) true (is-there ∙ h) c ok bytes))
      (λ h. rw h (settled-none (Clear t d) (pieces s ls) room (is-there ∙ h)))

  clear-free : (a : ℕ) → Freeing s ls 0 t a → settled (Clear t d) (pieces s ls) room ≡ refused 12 0
  unfolding there
  clear-free a k =
      let low : All (λ (x : Piece). x.term ≡ t → ⊥) k.before = All_map k.before (λ (x : Piece) (l : x.term < t) (z : x.term ≡ t). omega arith) k.low in
      let high : All (λ (x : Piece). x.term ≡ t → ⊥) k.after = All_map k.after (λ (x : Piece) (l : t < x.term) (z : x.term ≡ t). omega arith) k.high in
      settled-none (Clear t d) (pieces s ls) room (rw k.is (some-past t d k.before k.after low ∙ some-other t d k.after high))

  pub settled-clear : (seat : Seat) → seat ≡ seat_of t 0 ls →
      settled (Clear t d) (pieces s ls) room ≡ cond (has d (docs (held_by s seat))) (placed s (length ls) seat t (clear_post d (held_by s seat)) room) (refused 12 0)
  settled-clear (Taken p) q = clear-taken p (seat_taken s ls b e t p (sym q))
  settled-clear (Free a) q = clear-free a (seat_free s ls b e t a (sym q))
