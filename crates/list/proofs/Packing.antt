-- The writer's blocks one by one, out of two runs, and what they take. Assumes nothing.
use denote.Ref.{Bor}
use Rattle.std.proofs.Common.{Some, None}
use Rattle.std.specs.Slice.Iter.{chunks_rest, chunks_size, chunks_steps}
use Rattle.std.specs.declared.slice.Chunks.{Chunks}
use Rattle.std.specs.declared.iter.Zip.{Zip}
use Rattle.std.specs.Iterator.Adapters.{zip_first, zip_second}
use mathlib.Core.Logic.{◌⊎◌, inl, inr}
use Prim.Native.Nat.{ℕ, zero, suc, ◌+◌, ◌*◌, ◌/◌, ◌^◌, ◌≤◌, ◌<◌, min}
use native.Mathlib.Omega.{arith}
use mathlib.Core.Path.{◌≡◌, refl, sym, ap, ap₂, ◌∙◌}
use mathlib.Core.Bool.{Bool}
use mathlib.Core.List.{List, [], ◌∷◌, ◌++◌, append-nil}
use borrow.Author.Tests.{leb-true, leb-false}
use lib.Dec.{leb}
use lib.ListN.{length, take, drop, length-append, length-take, length-drop, take-append-drop, drop_of_length-le}
use lib.Seq.{take_all, take_at, drop_at}
use Rattle.model.specs.Limits.{max_docid, per_block, per_list, max_postings}
use Rattle.model.specs.Post.{Post, post, postings, Rising, last_doc, Even}
use Rattle.model.specs.Runs.{Stored}
use Rattle.model.proofs.Lists.{split}
use Rattle.model.proofs.Posts.{count_of, rising-last, last-append, rising-append}
use Rattle.model.proofs.Storing.{Rest, rest-room, rest-turn}
use Rattle.wire.specs.Number.{be}
use Rattle.wire.specs.Field.{field_bytes}
use Rattle.wire.proofs.Numbers.{be-length}
use Rattle.wire.proofs.Fields.{field-size}
use Rattle.block.specs.Summary.{sum_bytes, summary_of}
use Rattle.block.specs.Body.{tag_of, body_bytes}
use Rattle.block.proofs.Summaries.{sum-size}
use Rattle.block.specs.declared.summary.Summary.{Summary}
use Rattle.list.specs.Write.{packed, sums_bytes, bodies_bytes, blocks_bytes, list_bytes, Paired}
use Rattle.list.proofs.Writes.{body-few, sums-size, blocks-size, list-bytes}

-- ---- the first block, and the blocks after it

packed_more : (n : ℕ) (ps : List Post) → length ps ≤ 100 * n → packed (suc n) ps ≡ packed n ps
unfolding packed
packed_more zero [] h = refl
packed_more zero (p ∷ ps) h = absurd (omega arith)
packed_more (suc n) [] h = refl
packed_more (suc n) (p ∷ ps) h =
    ap (λ (bs : List (List Post)). (p ∷ take 99 ps) ∷ bs) (packed_more n (drop 99 ps) (omega (arith, length-drop 99 ps)))

packed-next : (ps : List Post) → 0 < length ps → length ps ≤ max_postings → packed 64 ps ≡ take 100 ps ∷ packed 64 (drop 100 ps)
unfolding packed
packed-next [] h k = absurd (omega arith)
packed-next (p ∷ ps) h k =
    ap (λ (bs : List (List Post)). (p ∷ take 99 ps) ∷ bs) (sym (packed_more 63 (drop 99 ps) (omega (arith, length-drop 99 ps))))

pub packed_none : (n : ℕ) → packed n [] ≡ []
unfolding packed
packed_none zero = refl
packed_none (suc n) = refl

pub packed-count : (n : ℕ) (ps : List Post) → length ps ≤ 100 * n → length (packed n ps) ≡ (length ps + 99) / 100
unfolding packed
packed-count zero [] h = omega arith
packed-count zero (p ∷ ps) h = absurd (omega arith)
packed-count (suc n) [] h = omega arith
packed-count (suc n) (p ∷ ps) h = omega (arith, length-drop 99 ps, packed-count n (drop 99 ps) (omega (arith, length-drop 99 ps)))

-- ---- postings in parts

postings-take : (k : ℕ) (ds ss : List ℕ) → postings (take k ds) (take k ss) ≡ take k (postings ds ss)
postings-take zero ds ss = refl
postings-take (suc k) [] ss = refl
postings-take (suc k) (d ∷ ds) [] = refl
postings-take (suc k) (d ∷ ds) (s ∷ ss) = ap {B = List Post} (λ xs. post d s ∷ xs) (postings-take k ds ss)

postings-drop : (k : ℕ) (ds ss : List ℕ) → length ds ≡ length ss → postings (drop k ds) (drop k ss) ≡ drop k (postings ds ss)
postings-drop zero ds ss e = refl
postings-drop (suc k) [] ss e = refl
postings-drop (suc k) (d ∷ ds) [] e = absurd (omega arith)
postings-drop (suc k) (d ∷ ds) (s ∷ ss) e = postings-drop k ds ss (omega arith)

rising_low : (p : ℕ) (ps : List Post) → Rising p ps → Rising 0 ps
rising_low p [] h = tt
rising_low p (x ∷ ps) h = (omega (arith, h.0), h.1)

rising-drop : (k p : ℕ) (ps : List Post) → Rising p ps → Rising 0 (drop k ps)
rising-drop zero p ps h = rising_low p ps h
rising-drop (suc k) p [] h = tt
rising-drop (suc k) p (x ∷ ps) h = rising-drop k x.doc ps h.1

last-drop : (k p : ℕ) (ps : List Post) → last_doc 0 (drop k ps) ≤ last_doc p ps
last-drop zero p [] = omega arith
last-drop zero p (x ∷ ps) = omega arith
last-drop (suc k) p [] = omega arith
last-drop (suc k) p (x ∷ ps) = last-drop k x.doc ps

-- the front of a rising run rises, and ends no later
front : (k : ℕ) (ps : List Post) → Rising 0 ps → Rising 0 (take k ps) × (last_doc 0 (take k ps) ≤ last_doc 0 ps)
front k ps h =
    let e : take k ps ++ drop k ps ≡ ps = take-append-drop k ps in
    let q = rising-append 0 (take k ps) (drop k ps) (rw e h) in
    let l : last_doc (last_doc 0 (take k ps)) (drop k ps) ≡ last_doc 0 ps = sym (last-append 0 (take k ps) (drop k ps)) ∙ ap (last_doc 0) e in
    (q.0, omega (arith, rising-last (last_doc 0 (take k ps)) (drop k ps) q.1))

-- ---- a run in pieces of 100: the first, x, and what comes after it, e

piece : (l x e : List ℕ) → l ≡ x ++ e → length x ≡ min 100 (length l) → (x ≡ take 100 l) × (e ≡ drop 100 l)
piece l x e q n =
    let m : length l ≡ length x + length e = ap length q ∙ length-append x e in
    split (leb 100 (length l))
    (λ t. let w : 100 ≤ length l = leb-true _ _ t in
    let k : 100 ≡ length x = omega arith in
    rw q (sym (take_at x e 100 (sym k)), sym (drop_at x e 100 (sym k))))
    (λ t. let w : length l < 100 = leb-false _ _ t in
    let k : length e ≡ 0 = omega arith in
    let z : e ≡ [] = length_zero e k in
    let s : x ≡ l = sym (append-nil x) ∙ ap (λ (y : List ℕ). x ++ y) (sym z) ∙ sym q in
    (s ∙ sym (take_all 100 l (omega arith)), z ∙ sym (drop_of_length-le l {i = 100} (omega arith))))
  where
    length_zero : (y : List ℕ) → length y ≡ 0 → y ≡ []
    length_zero [] h = refl
    length_zero (a ∷ y) h = absurd (omega arith)

-- what is left of two runs that may be written: perhaps nothing
pub record Left (ds ss : List ℕ) : Type 0 where
  pub same : length ds ≡ length ss
  pub few : length ds ≤ max_postings
  pub rise : Rising 0 (postings ds ss)
  pub last : last_doc 0 (postings ds ss) ≤ max_docid

pub left : (ds ss : List ℕ) → Paired ds ss → Left ds ss
left ds ss p = record { same = p.same; few = omega (arith, p.may.few, count_of ds ss p.same); rise = p.may.rise; last = p.may.last }

-- what a turn of a loop over the blocks needs of the block `xs` beside `ys`, after which `es` beside `fs` are left
pub record Turn (ds ss xs ys es fs : List ℕ) : Type 0 where
  pub next : packed per_list (postings ds ss) ≡ postings xs ys ∷ packed per_list (postings es fs)
  pub some : 0 < length xs
  pub few : length xs ≤ per_block
  pub even : Even 0 xs ys
  pub last : last_doc 0 (postings xs ys) ≤ max_docid
  pub rest : Left es fs

pub turn : (ds ss xs ys es fs : List ℕ) → Left ds ss → 0 < length ds → ds ≡ xs ++ es → length xs ≡ min per_block (length ds) → ss ≡ ys ++ fs → length ys ≡ min per_block (length ss) → Turn ds ss xs ys es fs
turn ds ss xs ys es fs p h q n r m =
    let s = p.same in
    let x = piece ds xs es q n in
    let y = piece ss ys fs r m in
    let all : length (postings ds ss) ≡ length ds = count_of ds ss s in
    let t : postings xs ys ≡ take 100 (postings ds ss) = rw (x.0, y.0) (postings-take 100 ds ss) in
    let d : postings es fs ≡ drop 100 (postings ds ss) = rw (x.1, y.1) (postings-drop 100 ds ss s) in
    let f = front 100 (postings ds ss) p.rise in
    record {
      next = packed-next (postings ds ss) (omega arith) (omega (arith, p.few)) ∙ ap₂ (λ (b : List Post) (z : List Post). b ∷ packed 64 z) (sym t) (sym d);
      some = omega arith;
      few = omega arith;
      even = record { same = omega arith; rise = rw t f.0 };
      last = rw t (omega (arith, f.1, p.last));
      rest = record {
        same = omega (arith, ap length q, ap length r, length-append xs es, length-append ys fs);
        few = omega (arith, ap length q, length-append xs es, p.few);
        rise = rw d (rising-drop 100 0 (postings ds ss) p.rise);
        last = rw d (omega (arith, last-drop 100 0 (postings ds ss), p.last));
      };
    }

none_in : (xs ys : List ℕ) → (length xs ≡ 0) ⊎ (length ys ≡ 0) → postings xs ys ≡ []
none_in [] ys h = refl
none_in (x ∷ xs) [] h = refl
none_in (x ∷ xs) (y ∷ ys) (inl e) = absurd (omega arith)
none_in (x ∷ xs) (y ∷ ys) (inr e) = absurd (omega arith)

-- the same where the two runs are cut into pieces side by side
abbrev pub Pairs : Type 0
Pairs = Zip (Chunks ℕ) (Chunks ℕ)

-- the docids and the scores that are left
abbrev pub docs_left : Pairs → List ℕ
docs_left z = chunks_rest (zip_first z)

abbrev pub scores_left : Pairs → List ℕ
scores_left z = chunks_rest (zip_second z)

abbrev pub posts_left : Pairs → List Post
posts_left z = postings (docs_left z) (scores_left z)

pub record Cut (z : Pairs) : Type 0 where
  pub docs : chunks_size (zip_first z) ≡ 100
  pub scores : chunks_size (zip_second z) ≡ 100
  pub left : Left (docs_left z) (scores_left z)

pub cut : (z : Pairs) (ds ss : List ℕ) → chunks_size (zip_first z) ≡ 100 → chunks_size (zip_second z) ≡ 100 → docs_left z ≡ ds → scores_left z ≡ ss → Paired ds ss → Cut z
cut z ds ss m n e f p = record { docs = m; scores = n; left = rw (e, f) (left ds ss p) }

module _ (z n : Pairs) (x y : Bor (List ℕ)) (p : Cut z) (s : chunks_steps (zip_first z) (Some x) (zip_first n) × chunks_steps (zip_second z) (Some y) (zip_second n)) where
  pub cut_turn : Turn (docs_left z) (scores_left z) x.now y.now (docs_left n) (scores_left n)
  cut_turn =
      let d : length x.now ≡ min 100 (length (docs_left z)) = omega (arith, p.docs, s.0) in
      let w : length y.now ≡ min 100 (length (scores_left z)) = omega (arith, p.scores, s.1) in
      turn (docs_left z) (scores_left z) x.now y.now (docs_left n) (scores_left n) p.left (omega (arith, s.0)) s.0.1.0 d s.1.1.0 w

  pub cut_rest : Cut n
  cut_rest = record { docs = s.0.0 ∙ p.docs; scores = s.1.0 ∙ p.scores; left = cut_turn.rest }

-- one run has no more, so neither has
pub cut_none : (z : Pairs) → ((u : Chunks ℕ) × chunks_steps (zip_first z) None u) ⊎ ((u : Chunks ℕ) × chunks_steps (zip_second z) None u) → posts_left z ≡ []
cut_none z (inl h) = none_in (docs_left z) (scores_left z) (inl h.1.1.0)
cut_none z (inr h) = none_in (docs_left z) (scores_left z) (inr h.1.1.0)

module _ (strip : Bool) where
  -- its summary's numbers fit their bytes
  pub fits-turn : {ds ss xs ys es fs : List ℕ} {m : Summary} → Turn ds ss xs ys es fs → m ≡ summary_of strip (postings xs ys) → (m.least < 256 ^ 3) × (m.greatest < 256 ^ 3)
  fits-turn {ds} {ss} {xs} {ys} {es} {fs} {m} t q = go (postings xs ys) q t.even.rise t.last
    where
      go : (ps : List Post) → m ≡ summary_of strip ps → Rising 0 ps → last_doc 0 ps ≤ 16777215 → (m.least < 256 ^ 3) × (m.greatest < 256 ^ 3)
      go [] q r l = (omega (arith, ap (λ (x : Summary). x.least) q), omega (arith, ap (λ (x : Summary). x.greatest) q))
      go (p ∷ ps) q r l = (omega (arith, ap (λ (x : Summary). x.least) q, rising-last p.doc ps r.1), omega (arith, ap (λ (x : Summary). x.greatest) q))

  -- ---- the bytes of the first block's part, and of the parts after it

  pub sums-turn : {ds ss xs ys es fs : List ℕ} → Turn ds ss xs ys es fs →
      sums_bytes strip (packed per_list (postings ds ss)) ≡ sum_bytes (summary_of strip (postings xs ys)) ++ sums_bytes strip (packed per_list (postings es fs))
  unfolding sums_bytes
  sums-turn t = ap (sums_bytes strip) t.next

  pub bodies-turn : {ds ss xs ys es fs : List ℕ} → Turn ds ss xs ys es fs →
      bodies_bytes strip (packed per_list (postings ds ss)) ≡ field_bytes (tag_of strip) (body_bytes strip (postings xs ys)) ++ bodies_bytes strip (packed per_list (postings es fs))
  unfolding bodies_bytes
  bodies-turn t = ap (bodies_bytes strip) t.next

  -- there is room for the first
  pub sums-room : {ds ss xs ys es fs l m v : List ℕ} {at j : ℕ} → Turn ds ss xs ys es fs → Rest l m at j v (sums_bytes strip (packed per_list (postings ds ss))) → at + length v ≤ length l → j + 12 ≤ length m
  sums-room {ds} {ss} {xs} {ys} {es} {fs} {l} {m} {v} t r h =
      let b = summary_of strip (postings xs ys) in
      omega (arith, rest-room (sum_bytes b) (sums_bytes strip (packed 64 (postings es fs))) (sums-turn t) r h, sum-size b)

  pub bodies-room : {ds ss xs ys es fs l m v : List ℕ} {at j : ℕ} → Turn ds ss xs ys es fs → Rest l m at j v (bodies_bytes strip (packed per_list (postings ds ss))) → at + length v ≤ length l →
      j + length (field_bytes (tag_of strip) (body_bytes strip (postings xs ys))) ≤ length m
  bodies-room {ds} {ss} {xs} {ys} {es} {fs} {l} {m} {v} t r h =
      rest-room (field_bytes (tag_of strip) (body_bytes strip (postings xs ys))) (bodies_bytes strip (packed 64 (postings es fs))) (bodies-turn t) r h

  -- and once it is stored the rest is to come
  pub bodies-on : {ds ss xs ys es fs l m o v : List ℕ} {at j r : ℕ} → Turn ds ss xs ys es fs → Rest l m at j v (bodies_bytes strip (packed per_list (postings ds ss))) →
      Stored m o j r (field_bytes (tag_of strip) (body_bytes strip (postings xs ys))) → Rest l o at r v (bodies_bytes strip (packed per_list (postings es fs)))
  bodies-on {ds} {ss} {xs} {ys} {es} {fs} {l} {m} {o} {v} t w s =
      rest-turn (field_bytes (tag_of strip) (body_bytes strip (postings xs ys))) (bodies_bytes strip (packed 64 (postings es fs))) (bodies-turn t) w s

  pub sums-end : sums_bytes strip (packed per_list []) ≡ []
  unfolding sums_bytes
  sums-end = ap (sums_bytes strip) (packed_none 64)

  pub bodies-end : bodies_bytes strip (packed per_list []) ≡ []
  unfolding bodies_bytes
  bodies-end = ap (bodies_bytes strip) (packed_none 64)

  -- ---- how many bytes

  -- of the blocks of some postings: a summary is 12 bytes
  abbrev pub size_of : List Post → ℕ
  size_of ps = 12 * length (packed per_list ps) + length (bodies_bytes strip (packed per_list ps))

  pub size-turn : {ds ss xs ys es fs : List ℕ} → Turn ds ss xs ys es fs → size_of (postings ds ss) ≡ 15 + length (body_bytes strip (postings xs ys)) + size_of (postings es fs)
  size-turn {ds} {ss} {xs} {ys} {es} {fs} t =
      let b = field_bytes (tag_of strip) (body_bytes strip (postings xs ys)) in
      omega (arith, ap length t.next, ap length (bodies-turn t), length-append b (bodies_bytes strip (packed 64 (postings es fs))), field-size (tag_of strip) (body_bytes strip (postings xs ys)))

  pub size-end : size_of [] ≡ 0
  size-end = omega (arith, ap length (packed_none 64), ap length bodies-end)

  pub list-size : (t : ℕ) (ds ss : List ℕ) → length (list_bytes strip t (postings ds ss)) ≡ 8 + size_of (postings ds ss)
  list-size t ds ss = ap length (list-bytes strip t (postings ds ss)) ∙ (omega (arith, blocks-size strip t (packed 64 (postings ds ss))))

  -- by its parts
  pub list-room : (t : ℕ) (ps : List Post) → length (list_bytes strip t ps) ≡ 8 + length (sums_bytes strip (packed per_list ps)) + length (bodies_bytes strip (packed per_list ps))
  list-room t ps = ap length (list-bytes strip t ps) ∙ omega (arith, blocks-size strip t (packed 64 ps), sums-size strip (packed 64 ps))

  size_few : (n : ℕ) (ps : List Post) → 12 * length (packed n ps) + length (bodies_bytes strip (packed n ps)) ≤ 715 * n
  unfolding packed bodies_bytes
  size_few zero ps = omega arith
  size_few (suc n) [] = omega arith
  size_few (suc n) (p ∷ ps) =
      let b = body_bytes strip (p ∷ take 99 ps) in
      omega (
        arith,
        length-append (field_bytes (tag_of strip) b) (bodies_bytes strip (packed n (drop 99 ps))),
        field-size (tag_of strip) b,
        body-few strip (p ∷ take 99 ps),
        length-take 99 ps,
        size_few n (drop 99 ps),
      )

  pub size_small : (ds ss : List ℕ) → size_of (postings ds ss) ≤ 45760
  size_small ds ss = size_few 64 (postings ds ss)

-- ---- a field of a body and a list, as the code stores them

pub field-parts : (t n : ℕ) (v : List ℕ) → n ≡ length v → (t ∷ be 2 n) ++ v ≡ field_bytes t v
unfolding field_bytes
field-parts t n v e = rw e

pub header_parts : (t n : ℕ) → (1 ∷ be 2 5) ++ (be 4 t ++ be 1 n) ≡ field_bytes 1 (be 4 t ++ be 1 n)
header_parts t n = field-parts 1 5 (be 4 t ++ be 1 n) (omega (arith, length-append (be 4 t) (be 1 n), be-length 4 t, be-length 1 n))

pub header_past : {l m : List ℕ} {at r : ℕ} (t n : ℕ) → Stored l m at r (field_bytes 1 (be 4 t ++ be 1 n)) → r ≡ at + 8
header_past t n s =
    omega (arith, s.past, field-size 1 (be 4 t ++ be 1 n), length-append (be 4 t) (be 1 n), be-length 4 t, be-length 1 n)

pub list-parts : (strip : Bool) (t n : ℕ) (ps : List Post) → n ≡ length (packed per_list ps) →
    field_bytes 1 (be 4 t ++ be 1 n) ++ (sums_bytes strip (packed per_list ps) ++ bodies_bytes strip (packed per_list ps)) ≡ list_bytes strip t ps
unfolding list_bytes blocks_bytes
list-parts strip t n ps e = rw e
