-- What is written walks as a shelf, and is sound. Assumes nothing.
use Prim.Native.Nat.{ℕ, zero, suc, ◌+◌, ◌*◌, ◌-◌, ◌^◌, ◌≤◌, ◌<◌, max}
use native.Mathlib.Omega.{arith}
use mathlib.Core.Path.{◌≡◌, refl, sym, ap, ◌∙◌}
use mathlib.Core.List.{List, [], ◌∷◌, ◌++◌, append_assoc}
use mathlib.Core.Bool.{Bool, true, false}
use borrow.Author.Tests.{le-leb, lt-ltb}
use lib.ListN.{length, take, drop, length-append, length-take, length-drop, take-append-drop}
use lib.Seq.{drop_at, drop-drop, drop-append_seam}
use Rattle.model.specs.Limits.{max_docid, per_block, per_list, max_lists, max_shelf}
use Rattle.model.specs.Outcome.{done, and_then}
use Rattle.model.specs.Post.{Post, Rising, Scored, last_doc, top_score}
use Rattle.model.proofs.Posts.{rising-last, last-append, rising-append}
use Rattle.model.proofs.Lists.{All_front, All_rest}
use Rattle.wire.specs.Number.{be}
use Rattle.wire.specs.Field.{field_bytes}
use Rattle.wire.proofs.Numbers.{num-be, be-length}
use Rattle.wire.proofs.Fields.{field-size, whole_round, len_round, value_round, head-drop}
use Rattle.wire.proofs.Gaps.{in_length}
use Rattle.wire.specs.Gap.{gap_bytes}
use Rattle.block.specs.Summary.{sum_bytes, summary_of}
use Rattle.block.specs.Body.{is_strip, tag_of, later_bytes, front_bytes, body_bytes}
use Rattle.block.proofs.Summaries.{Fitting, sum_is, sum-of, sum-size, right-sum}
use Rattle.block.proofs.Bodies.{body-even, body_round, right_round}
use Rattle.shelf.specs.Walk.{Block, Listing, head_term, head_count, right_head, one_sum, sums, one_body, bodies_of, bodies, posts_of, strip_of, blocks_of, list, onto, lists, walk}
use Rattle.shelf.specs.Check.{bad_body, bad_lists, checked}
use Rattle.shelf.proofs.Walks.{any_strip, any_greatest, strip-is}
use Rattle.list.specs.Write.{packed, sums_bytes, bodies_bytes, blocks_bytes, list_bytes, Word, writing, Writable, Words}
use Rattle.std.specs.Prelude.{None}

-- ---- blocks that may be written, the first after docid p

abbrev pub Fine : ℕ → List Post → Type 0
Fine p [] = ⊥
Fine p (x ∷ xs) = Rising p (x ∷ xs) × Scored (x ∷ xs) × (length (x ∷ xs) ≤ per_block) × (last_doc p (x ∷ xs) ≤ max_docid)

abbrev pub Fines : ℕ → List (List Post) → Type 0
Fines p [] = Unit {0}
Fines p (b ∷ bs) = Fine p b × Fines (last_doc p b) bs

top_below : (m : ℕ) (ps : List Post) → m ≤ 65535 → Scored ps → top_score m ps ≤ 65535
top_below m [] h s = h
top_below m (p ∷ ps) h s = top_below (max m p.score) ps (omega (arith, s.0.1)) s.1

later-few : (d : ℕ) (ps : List Post) → length (later_bytes false d ps) ≤ 7 * length ps
unfolding later_bytes
later-few d [] = omega arith
later-few d (p ∷ ps) =
    let g = gap_bytes (p.doc - d - 1) in
    let r = later_bytes false p.doc ps in
    omega (arith, length-append g (be 2 p.score ++ r), length-append (be 2 p.score) r, be-length 2 p.score, in_length 5 (p.doc - d - 1), later-few p.doc ps)

front-few : (ps : List Post) → length (front_bytes false ps) ≤ 7 * length ps
unfolding front_bytes
front-few [] = omega arith
front-few (x ∷ xs) = omega (arith, length-append (be 2 x.score) (later_bytes false x.doc xs), be-length 2 x.score, later-few x.doc xs)

-- a body is as long in either layout
pub body-few : (strip : Bool) (ps : List Post) → length (body_bytes strip ps) ≤ 7 * length ps
body-few strip ps = omega (arith, body-even strip ps, front-few ps)

module _ (strip : Bool) where
  fitting : (p : ℕ) (x : Post) (xs : List Post) → Fine p (x ∷ xs) → Fitting (summary_of strip (x ∷ xs))
  fitting p x xs f =
      record {
        least = omega (arith, rising-last x.doc xs f.0.1, f.3);
        greatest = omega (arith, f.3);
        top = omega (arith, top_below 0 (x ∷ xs) (omega arith) f.1);
        count = omega (arith, f.2);
      }

  body-short : (p : ℕ) (x : Post) (xs : List Post) → Fine p (x ∷ xs) → length (body_bytes strip (x ∷ xs)) < 65536
  body-short p x xs f = omega (arith, body-few strip (x ∷ xs), f.2)

  -- ---- the summaries

  sum_past : (b : List Post) (r : List ℕ) → drop 12 (sum_bytes (summary_of strip b) ++ r) ≡ r
  sum_past b r = drop_at (sum_bytes (summary_of strip b)) r 12 (sum-size (summary_of strip b))

  sums_round : (p at : ℕ) (bs : List (List Post)) (r : List ℕ) → Fines p bs → sums (length bs) p at (sums_bytes strip bs ++ r) ≡ done (at + 12 * length bs)
  unfolding sums one_sum sums_bytes
  sums_round p at [] r f = ap done (omega arith)
  sums_round p at ([] ∷ bs) r f = absurd f.0
  sums_round p at ((x ∷ xs) ∷ bs) r f =
      let b = x ∷ xs in
      let t = sums_bytes strip bs ++ r in
      rw (
        append_assoc (sum_bytes (summary_of strip b)) (sums_bytes strip bs) r,
        sum_is (summary_of strip b) t,
        ← any_strip strip p (sum_bytes (summary_of strip b) ++ t),
        ← any_greatest strip (sum_bytes (summary_of strip b) ++ t),
        sum-of (summary_of strip b) t (fitting p x xs f.0),
        right-sum strip p x xs f.0.0 f.0.1 f.0.2,
        sum_past b t,
      )
      (sums_round (last_doc x.doc xs) (at + 12) bs r f.1 ∙ ap done (omega arith))

  -- ---- the bodies

  body-past : (b : List Post) (r : List ℕ) → drop (3 + length (body_bytes strip b)) (field_bytes (tag_of strip) (body_bytes strip b) ++ r) ≡ r
  body-past b r = rw (← field-size (tag_of strip) (body_bytes strip b)) (drop-append_seam (field_bytes (tag_of strip) (body_bytes strip b)) r)

  bodies_round : (p at : ℕ) (bs : List (List Post)) (r : List ℕ) → Fines p bs → bodies_of strip (length bs) at (bodies_bytes strip bs ++ r) ≡ done (at + length (bodies_bytes strip bs))
  unfolding bodies_of one_body bodies_bytes
  bodies_round p at [] r f = ap done (omega arith)
  bodies_round p at ([] ∷ bs) r f = absurd f.0
  bodies_round p at ((x ∷ xs) ∷ bs) r f =
      let v = body_bytes strip (x ∷ xs) in
      let t = bodies_bytes strip bs ++ r in
      let short = body-short p x xs f.0 in
      let n : at + (3 + length v) + length (bodies_bytes strip bs) ≡ at + length (field_bytes (tag_of strip) v ++ bodies_bytes strip bs) = omega (arith, length-append (field_bytes (tag_of strip) v) (bodies_bytes strip bs), field-size (tag_of strip) v) in
      rw (append_assoc (field_bytes (tag_of strip) v) (bodies_bytes strip bs) r, whole_round (tag_of strip) v t short, len_round (tag_of strip) v t short, body-past (x ∷ xs) t)
      (bodies_round (last_doc x.doc xs) (at + (3 + length v)) bs r f.1 ∙ ap done n)

  -- a written body's tag tells its layout
  tag_round : (p : ℕ) (x : Post) (xs : List Post) (r : List ℕ) → Fine p (x ∷ xs) → is_strip (field_bytes (tag_of strip) (body_bytes strip (x ∷ xs)) ++ r) ≡ strip
  tag_round p x xs r f = strip-is strip (field_bytes (tag_of strip) (body_bytes strip (x ∷ xs)) ++ r) (whole_round (tag_of strip) (body_bytes strip (x ∷ xs)) r (body-short p x xs f))

  first-tag : (p : ℕ) (bs : List (List Post)) (r : List ℕ) → 0 < length bs → Fines p bs → is_strip (bodies_bytes strip bs ++ r) ≡ strip
  unfolding bodies_bytes
  first-tag p [] r some f = absurd (omega arith)
  first-tag p ([] ∷ bs) r some f = absurd f.0
  first-tag p ((x ∷ xs) ∷ bs) r some f = rw (append_assoc (field_bytes (tag_of strip) (body_bytes strip (x ∷ xs))) (bodies_bytes strip bs) r) (tag_round p x xs (bodies_bytes strip bs ++ r) f.0)

  -- all bodies of a list have the first one's
  all_round : (p at : ℕ) (bs : List (List Post)) (r : List ℕ) → 0 < length bs → Fines p bs → bodies (length bs) at (bodies_bytes strip bs ++ r) ≡ done (at + length (bodies_bytes strip bs))
  unfolding bodies
  all_round p at bs r some f = rw (first-tag p bs r some f) (bodies_round p at bs r f)

  -- ---- the blocks

  -- written blocks, with their summaries from a on and their bodies from b on
  abbrev pub blocks_for : (a b : ℕ) → List (List Post) → List Block
  blocks_for a b [] = []
  blocks_for a b (c ∷ cs) = record { at = a; sum = summary_of strip c; body_at = b; body = body_bytes strip c } ∷ blocks_for (a + 12) (b + (3 + length (body_bytes strip c))) cs

  blocks_round : (p a b : ℕ) (bs : List (List Post)) (q r : List ℕ) → Fines p bs → blocks_of (length bs) a (sums_bytes strip bs ++ q) b (bodies_bytes strip bs ++ r) ≡ blocks_for a b bs
  unfolding blocks_of sums_bytes bodies_bytes
  blocks_round p a b [] q r f = refl
  blocks_round p a b ([] ∷ bs) q r f = absurd f.0
  blocks_round p a b ((x ∷ xs) ∷ bs) q r f =
      let c = x ∷ xs in
      let v = body_bytes strip c in
      let short = body-short p x xs f.0 in
      rw (
        append_assoc (sum_bytes (summary_of strip c)) (sums_bytes strip bs) q,
        append_assoc (field_bytes (tag_of strip) v) (bodies_bytes strip bs) r,
        tag_round p x xs (bodies_bytes strip bs ++ r) f.0,
        sum-of (summary_of strip c) (sums_bytes strip bs ++ q) (fitting p x xs f.0),
        sum_past c (sums_bytes strip bs ++ q),
        len_round (tag_of strip) v (bodies_bytes strip bs ++ r) short,
        value_round (tag_of strip) v (bodies_bytes strip bs ++ r) short,
        body-past c (bodies_bytes strip bs ++ r),
        blocks_round (last_doc x.doc xs) (a + 12) (b + (3 + length v)) bs q r f.1,
      )

  -- every written body is right
  pub bad_round : (p a b : ℕ) (bs : List (List Post)) → Fines p bs → bad_body (blocks_for a b bs) ≡ None
  bad_round p a b [] f = refl
  bad_round p a b ([] ∷ bs) f = absurd f.0
  bad_round p a b ((x ∷ xs) ∷ bs) f =
      let small : last_doc x.doc xs < 128 ^ 4 = omega (arith, f.0.3) in
      rw (right_round strip x xs small f.0.0.1 f.0.1) (bad_round (last_doc x.doc xs) (a + 12) (b + (3 + length (body_bytes strip (x ∷ xs)))) bs f.1)

  -- ---- the list

  module _ (t : ℕ) (bs : List (List Post)) (r : List ℕ) where
    head : List ℕ
    head = be 4 t ++ be 1 (length bs)

    tail : List ℕ
    tail = sums_bytes strip bs ++ (bodies_bytes strip bs ++ r)

    head-size : length head ≡ 5
    unfolding head
    head-size = omega (arith, length-append (be 4 t) (be 1 (length bs)), be-length 4 t, be-length 1 (length bs))

    cut : blocks_bytes strip t bs ++ r ≡ field_bytes 1 head ++ tail
    unfolding blocks_bytes head tail
    cut =
        append_assoc (field_bytes 1 (be 4 t ++ be 1 (length bs))) (sums_bytes strip bs ++ bodies_bytes strip bs) r
        ∙ ap (λ (l : List ℕ). field_bytes 1 (be 4 t ++ be 1 (length bs)) ++ l) (append_assoc (sums_bytes strip bs) (bodies_bytes strip bs) r)

    past_3 : drop 3 (field_bytes 1 head ++ tail) ≡ be 4 t ++ (be 1 (length bs) ++ tail)
    unfolding head
    past_3 = head-drop 1 (be 4 t ++ be 1 (length bs)) tail ∙ append_assoc (be 4 t) (be 1 (length bs)) tail

    past_7 : drop 7 (field_bytes 1 head ++ tail) ≡ be 1 (length bs) ++ tail
    past_7 = sym (drop-drop 4 3 (field_bytes 1 head ++ tail)) ∙ rw past_3 (drop_at (be 4 t) (be 1 (length bs) ++ tail) 4 (be-length 4 t))

    past_8 : drop 8 (field_bytes 1 head ++ tail) ≡ tail
    past_8 = drop_at (field_bytes 1 head) tail 8 (field-size 1 head ∙ rw head-size)

    module _ (t32 : t < 256 ^ 4) (few : length bs ≤ per_list) where
      term_round : head_term (field_bytes 1 head ++ tail) ≡ t
      unfolding head_term
      term_round = rw past_3 (num-be 4 t (be 1 (length bs) ++ tail) t32)

      count_round : head_count (field_bytes 1 head ++ tail) ≡ length bs
      unfolding head_count
      count_round = rw past_7 (num-be 1 (length bs) tail (omega arith))

      head_round : (floor : ℕ) → floor ≤ t → 0 < length bs → right_head floor (field_bytes 1 head ++ tail) ≡ true
      unfolding right_head
      head_round floor low some =
          let short : length head < 65536 = omega (arith, head-size) in
          rw (
            whole_round 1 head tail short,
            len_round 1 head tail short,
            head-size,
            term_round,
            count_round,
            le-leb floor t low,
            lt-ltb 0 (length bs) some,
            le-leb (length bs) 64 few,
          )

  pub sums-size : (bs : List (List Post)) → length (sums_bytes strip bs) ≡ 12 * length bs
  unfolding sums_bytes
  sums-size [] = omega arith
  sums-size (b ∷ bs) = omega (arith, length-append (sum_bytes (summary_of strip b)) (sums_bytes strip bs), sum-size (summary_of strip b), sums-size bs)

  pub blocks-size : (t : ℕ) (bs : List (List Post)) → length (blocks_bytes strip t bs) ≡ 8 + 12 * length bs + length (bodies_bytes strip bs)
  unfolding blocks_bytes
  blocks-size t bs =
      let h = be 4 t ++ be 1 (length bs) in
      omega (
        arith,
        length-append (field_bytes 1 h) (sums_bytes strip bs ++ bodies_bytes strip bs),
        length-append (sums_bytes strip bs) (bodies_bytes strip bs),
        field-size 1 h,
        length-append (be 4 t) (be 1 (length bs)),
        be-length 4 t,
        be-length 1 (length bs),
        sums-size bs,
      )

  -- the list that is written at a place
  abbrev pub written : (t at : ℕ) → List (List Post) → Listing
  written t at bs =
      record {
        place = record { term = t; count = length bs; at = at; next = at + 8 + 12 * length bs + length (bodies_bytes strip bs) };
        blocks = blocks_for (at + 8) (at + 8 + 12 * length bs) bs;
      }

  -- a written list walks as itself, whatever follows it
  pub list_round : (floor t at : ℕ) (bs : List (List Post)) (r : List ℕ) → t < 256 ^ 4 → floor ≤ t → 0 < length bs → length bs ≤ per_list → Fines 0 bs →
      list floor at (blocks_bytes strip t bs ++ r) ≡ done (written t at bs)
  unfolding list tail
  list_round floor t at bs r t32 low some few f =
      let n = length bs in
      let s = field_bytes 1 (head t bs r) ++ tail t bs r in
      let past : drop (8 + 12 * n) s ≡ bodies_bytes strip bs ++ r =
      sym (drop-drop (12 * n) 8 s) ∙ rw (past_8 t bs r) (drop_at (sums_bytes strip bs) (bodies_bytes strip bs ++ r) (12 * n) (sums-size bs)) in
      rw (
        cut t bs r,
        head_round t bs r t32 few floor low some,
        count_round t bs r t32 few,
        term_round t bs r t32 few,
        past_8 t bs r,
        past,
        sums_round 0 (at + 8) bs (bodies_bytes strip bs ++ r) f,
        all_round 0 (at + 8 + 12 * n) bs r some f,
        blocks_round 0 (at + 8) (at + 8 + 12 * n) bs (bodies_bytes strip bs ++ r) r f,
      )

-- ---- the postings of a written list

abbrev pub joined : List (List Post) → List Post
joined [] = []
joined (b ∷ bs) = b ++ joined bs

pub posts_round : (strip : Bool) (p a b : ℕ) (bs : List (List Post)) → Fines p bs → posts_of (blocks_for strip a b bs) ≡ joined bs
posts_round strip p a b [] f = refl
posts_round strip p a b ([] ∷ bs) f = absurd f.0
posts_round strip p a b ((x ∷ xs) ∷ bs) f =
    let small : last_doc x.doc xs < 128 ^ 4 = omega (arith, f.0.3) in
    rw (body_round strip x xs small f.0.0.1 f.0.1, posts_round strip (last_doc x.doc xs) (a + 12) (b + (3 + length (body_bytes strip (x ∷ xs)))) bs f.1)

-- and their layout
pub strip_round : (strip : Bool) (a b : ℕ) (bs : List (List Post)) → 0 < length bs → strip_of (blocks_for strip a b bs) ≡ strip
strip_round strip a b [] some = absurd (omega arith)
strip_round strip a b ([] ∷ bs) some = refl
strip_round strip a b ((x ∷ xs) ∷ bs) some = refl

-- ---- the writer's blocks

pub packed-joined : (n : ℕ) (ps : List Post) → length ps ≤ 100 * n → joined (packed n ps) ≡ ps
unfolding packed
packed-joined zero [] h = refl
packed-joined zero (p ∷ ps) h = absurd (omega arith)
packed-joined (suc n) [] h = refl
packed-joined (suc n) (p ∷ ps) h =
    let ih : joined (packed n (drop 99 ps)) ≡ drop 99 ps = packed-joined n (drop 99 ps) (simp length-drop (omega arith)) in
    rw (ih, take-append-drop 99 ps)

pub packed-few : (n : ℕ) (ps : List Post) → length (packed n ps) ≤ n
unfolding packed
packed-few zero ps = omega arith
packed-few (suc n) [] = omega arith
packed-few (suc n) (p ∷ ps) = omega (arith, packed-few n (drop 99 ps))

pub packed-some : (n : ℕ) (ps : List Post) → 0 < length ps → 0 < length (packed (suc n) ps)
unfolding packed
packed-some n [] h = absurd (omega arith)
packed-some n (p ∷ ps) h = omega arith

packed_fine : (n d : ℕ) (ps : List Post) → Rising d ps → Scored ps → last_doc d ps ≤ max_docid → Fines d (packed n ps)
unfolding packed
packed_fine zero d ps r s l = tt
packed_fine (suc n) d [] r s l = tt
packed_fine (suc n) d (p ∷ ps) r s l =
    let e : take 99 ps ++ drop 99 ps ≡ ps = take-append-drop 99 ps in
    let q = rising-append p.doc (take 99 ps) (drop 99 ps) (rw e r.1) in
    let sc : Scored (take 99 ps ++ drop 99 ps) = rw e s.1 in
    let s1 : Scored (take 99 ps) = All_front (λ (x : Post). (0 < x.score) × (x.score ≤ 65535)) (take 99 ps) (drop 99 ps) sc in
    let s2 : Scored (drop 99 ps) = All_rest (λ (x : Post). (0 < x.score) × (x.score ≤ 65535)) (take 99 ps) (drop 99 ps) sc in
    let m : length (take 99 ps) ≤ 99 = simp length-take (omega arith) in
    let k1 : last_doc (last_doc p.doc (take 99 ps)) (drop 99 ps) ≤ max_docid = rw (← last-append p.doc (take 99 ps) (drop 99 ps), e) l in
    let k2 : last_doc p.doc (take 99 ps) ≤ max_docid = omega (arith, rising-last (last_doc p.doc (take 99 ps)) (drop 99 ps) q.1) in
    (((r.0, q.0), (s.0, s1), omega arith, k2), packed_fine n (last_doc p.doc (take 99 ps)) (drop 99 ps) q.1 s2 k1)

pub writable_fine : (ps : List Post) → Writable ps → Fines 0 (packed per_list ps)
writable_fine ps w = packed_fine 64 0 ps w.rise w.scores w.last

-- a written list holds its postings
pub written-posts : (strip : Bool) (t at : ℕ) (ps : List Post) → Writable ps → posts_of (written strip t at (packed per_list ps)).blocks ≡ ps
written-posts strip t at ps w =
    posts_round strip 0 (at + 8) (at + 8 + 12 * length (packed 64 ps)) (packed 64 ps) (writable_fine ps w) ∙ packed-joined 64 ps w.few

-- in the layout that was told
pub written-strip : (strip : Bool) (t at : ℕ) (ps : List Post) → Writable ps → strip_of (written strip t at (packed per_list ps)).blocks ≡ strip
written-strip strip t at ps w = strip_round strip (at + 8) (at + 8 + 12 * length (packed 64 ps)) (packed 64 ps) (packed-some 63 ps w.some)

-- ---- one writing of a shelf

-- the lists of a writing, the first at a place
abbrev pub written_from : ℕ → List Word → List Listing
written_from at [] = []
written_from at (w ∷ ws) = written w.strip w.term at (packed per_list w.posts) ∷ written_from (at + length (list_bytes w.strip w.term w.posts)) ws

some_more : (n floor at : ℕ) (s : List ℕ) → 0 < length s →
    lists (suc n) floor at s ≡ and_then (list floor at s) (λ l. onto l (lists n (l.place.term + 1) l.place.next (drop (l.place.next - at) s)))
unfolding lists
some_more n floor at [] h = absurd (omega arith)
some_more n floor at (b ∷ s) h = refl

none_more : (n floor at : ℕ) → lists n floor at [] ≡ done []
unfolding lists
none_more zero floor at = refl
none_more (suc n) floor at = refl

pub list-bytes : (strip : Bool) (t : ℕ) (ps : List Post) → list_bytes strip t ps ≡ blocks_bytes strip t (packed 64 ps)
unfolding list_bytes
list-bytes strip t ps = refl

lists_round : (n floor at : ℕ) (ws : List Word) → length ws ≤ n → Words floor ws → lists n floor at (writing ws) ≡ done (written_from at ws)
unfolding writing
lists_round n floor at [] h ok = none_more n floor at
lists_round zero floor at (w ∷ ws) h ok = absurd (omega arith)
lists_round (suc n) floor at (w ∷ ws) h ok =
    let t = w.term in
    let strip = w.strip in
    let bs = packed 64 w.posts in
    let front = blocks_bytes strip t bs in
    let size : length front ≡ 8 + 12 * length bs + length (bodies_bytes strip bs) = blocks-size strip t bs in
    let some : 0 < length (front ++ writing ws) = omega (arith, length-append front (writing ws)) in
    let one : list floor at (front ++ writing ws) ≡ done (written strip t at bs) =
    list_round strip floor t at bs (writing ws) ok.1 ok.0 (packed-some 63 w.posts ok.2.some) (packed-few 64 w.posts) (writable_fine w.posts ok.2) in
    let next : at + 8 + 12 * length bs + length (bodies_bytes strip bs) ≡ at + length front = omega arith in
    let less : at + length front - at ≡ length front = omega arith in
    let past : drop (at + length front - at) (front ++ writing ws) ≡ writing ws = rw less (drop-append_seam front (writing ws)) in
    rw (list-bytes strip t w.posts, some_more n floor at (front ++ writing ws) some, one, next, past, lists_round n (t + 1) (at + length front) ws (omega arith) ok.3)

bad_from : (floor at : ℕ) (ws : List Word) → Words floor ws → bad_lists (written_from at ws) ≡ None
bad_from floor at [] ok = refl
bad_from floor at (w ∷ ws) ok =
    let bs = packed 64 w.posts in
    rw (bad_round w.strip 0 (at + 8) (at + 8 + 12 * length bs) bs (writable_fine w.posts ok.2))
    (bad_from (w.term + 1) (at + length (list_bytes w.strip w.term w.posts)) ws ok.3)

-- the checker finds nothing on one writing of a shelf, and its lists are the lists written
pub written-sound : (ws : List Word) → Words 0 ws → length ws ≤ max_lists → length (writing ws) ≤ max_shelf → checked (writing ws) ≡ done (written_from 0 ws)
unfolding checked walk
written-sound ws ok few small =
    rw (le-leb (length (writing ws)) 1048576 small, lists_round 1024 0 0 ws few ok, bad_from 0 0 ws ok)
