-- A list that reads is what is written for its blocks: header, summaries and bodies have no other bytes. Assumes nothing.
use Prim.Native.Nat.{ℕ, zero, suc, ◌+◌, ◌*◌, ◌-◌, ◌^◌, ◌≤◌, ◌<◌}
use native.Mathlib.Omega.{arith}
use mathlib.Core.Path.{◌≡◌, refl, sym, ap, ◌∙◌}
use mathlib.Core.List.{List, [], ◌∷◌, ◌++◌, append_assoc}
use mathlib.Core.Bool.{Bool, true, false}
use borrow.Author.Tests.{ltb-true, leb-true, eqb-true}
use lib.Dec.{leb, ltb, eqb}
use lib.ListN.{length, take, drop, length-drop, take-append-drop}
use lib.Seq.{drop-drop}
use Rattle.model.specs.Limits.{max_docid, per_block, per_list}
use Rattle.model.specs.Outcome.{Outcome, refused, done, and_then}
use Rattle.model.specs.Post.{Post, post, last_doc, top_score}
use Rattle.model.specs.Runs.{All, Bytes}
use Rattle.model.proofs.Lists.{split, and-true, bytes_drop, bytes_take}
use Rattle.wire.specs.Read.{Read, got, stopped, further}
use Rattle.wire.specs.Number.{num, be}
use Rattle.wire.specs.Field.{whole, field_len, field_value, field_bytes}
use Rattle.wire.specs.Gap.{score}
use Rattle.wire.proofs.Numbers.{be-num, num-below}
use Rattle.wire.proofs.Fields.{field-only, value-length}
use Rattle.block.specs.Summary.{is_sum, sum_of, sum_bytes, right_sum, summary_of}
use Rattle.block.specs.Body.{is_strip, tag_of, edge, score_in, wide, with_doc, posting, posts, onto, and_on, body_posts, right_body, body_bytes}
use Rattle.block.specs.declared.summary.Summary.{Summary}
use Rattle.block.proofs.Summaries.{sum-parts, sum_room, right_facts}
use Rattle.block.proofs.Contents.{Whole, right-body}
use Rattle.shelf.specs.Walk.{Block, Listing, read_or, head_term, head_count, right_head, one_sum, sums, one_body, bodies_of, bodies, strip_of, blocks_of, listed, list}
use Rattle.shelf.specs.Check.{bad_body}
use Rattle.std.specs.Prelude.{Some, None}
use Rattle.shelf.proofs.Walks.{any_strip, any_greatest, head-room, sums-place, strip-is, bodies-place, all-place}
use Rattle.list.specs.Write.{sums_bytes, bodies_bytes, blocks_bytes}
use Rattle.list.proofs.Writes.{Fine, Fines}
use Rattle.list.proofs.Packing.{header_parts}

-- ---- numbers and fields

number-only : (n k : ℕ) (s : List ℕ) → Bytes s → k + n ≤ length s → be n (num n (drop k s)) ++ drop (k + n) s ≡ drop k s
number-only n k s h l = rw (← drop-drop n k s) (be-num n (drop k s) (bytes_drop k s h) (simp length-drop (omega arith)))

value-rest : (s : List ℕ) → field_value s ++ drop (3 + field_len s) s ≡ drop 3 s
unfolding field_value
value-rest s = rw (← drop-drop (field_len s) 3 s) (take-append-drop (field_len s) (drop 3 s))

head-only : (t n : ℕ) (s : List ℕ) → Bytes s → whole t s ≡ true → field_len s ≡ n → (t ∷ be 2 n) ++ drop 3 s ≡ s
unfolding field_bytes
head-only t n s h w e =
    let v = field_value s in
    let r = drop (3 + field_len s) s in
    let q : (t ∷ be 2 (length v)) ++ (v ++ r) ≡ s = sym (append_assoc (t ∷ be 2 (length v)) v r) ∙ field-only t s h w in
    rw (← e, ← value-length t s w, ← value-rest s) q

-- ---- a summary and a header

sum-only : (strip : Bool) (s : List ℕ) → Bytes s → is_sum s ≡ true → sum_bytes (sum_of strip s) ++ drop 12 s ≡ s
unfolding is_sum sum_of
sum-only strip s h i =
    let a = and-true (whole 2 s) _ i in
    let room = sum_room s i in
    rw (← sum-parts (sum_of strip s))
    (simp append_assoc
    (rw (number-only 1 11 s h room, number-only 2 9 s h (omega arith), number-only 3 6 s h (omega arith), number-only 3 3 s h (omega arith))
    (head-only 2 9 s h a.0 (eqb-true _ _ a.1))))

header_only : (floor : ℕ) (s : List ℕ) → Bytes s → right_head floor s ≡ true → field_bytes 1 (be 4 (head_term s) ++ be 1 (head_count s)) ++ drop 8 s ≡ s
unfolding right_head head_term head_count
header_only floor s h i =
    let a = and-true (whole 1 s) _ i in
    let b = and-true (eqb (field_len s) 5) _ a.1 in
    let room = head-room floor s i in
    rw (← header_parts (num 4 (drop 3 s)) (num 1 (drop 7 s)))
    (simp append_assoc
    (rw (number-only 1 7 s h room, number-only 4 3 s h (omega arith))
    (head-only 1 5 s h a.0 (eqb-true _ _ b.0))))

-- ---- a block

-- the first posting has the block's least docid
abbrev Led : ℕ → Read (List Post) → Type 0
Led d (got [] k) = Unit {0}
Led d (got (p ∷ ps) k) = p.doc ≡ d
Led d (stopped k) = Unit {0}

led : (strip : Bool) (greatest n d : ℕ) (g w : List ℕ) → Led d (posts strip greatest n true d g w)
unfolding posts posting
led strip greatest zero d [] [] = tt
led strip greatest zero d [] (b ∷ w) = tt
led strip greatest zero d (b ∷ g) w = tt
led strip greatest (suc n) d g w = go strip (score (score_in strip 0 g w))
  where
    on : (x k : ℕ) (r : Read (List Post)) → Led d (further k (onto (post d x) r))
    on x k (got ps j) = refl
    on x k (stopped j) = tt

    go : (x : Bool) (r : Read ℕ) → Led d (and_on (with_doc x d r) (λ p k. posts strip greatest n false p.doc (drop k g) (drop (wide strip) w)))
    go true (stopped k) = tt
    go false (stopped k) = tt
    go true (got x k) = on x 0 (posts strip greatest n false d (drop 0 g) (drop (wide strip) w))
    go false (got x k) = on x k (posts strip greatest n false d (drop k g) (drop (wide strip) w))

body_led : (m : Summary) (v : List ℕ) → Led m.least (body_posts m v)
unfolding body_posts
body_led m v =
    let e = edge m.strip m.count v in
    led m.strip m.greatest m.count m.least (take e v) (drop e v)

right-few : (prev : ℕ) (m : Summary) → right_sum prev m ≡ true → m.count ≤ per_block
unfolding right_sum
right-few prev m e =
    let a = and-true (ltb prev m.least) _ e in
    let b = and-true (leb m.least m.greatest) _ a.1 in
    let c = and-true (ltb 0 m.top) _ b.1 in
    let d = and-true (ltb 0 m.count) _ c.1 in
    let f = and-true (leb m.count 100) _ d.1 in
    leb-true _ _ f.0

-- a summary and a body that are right are those of the postings c, which may be written after docid prev
pub record Only (prev : ℕ) (m : Summary) (v : List ℕ) (c : List Post) : Type 0 where
  pub sum : summary_of m.strip c ≡ m
  pub body : body_bytes m.strip c ≡ v
  pub fine : Fine prev c
  pub last : last_doc prev c ≡ m.greatest

only : (prev : ℕ) (m : Summary) (v : List ℕ) (c : List Post) → prev < m.least → 0 < m.count → m.count ≤ per_block → m.greatest ≤ max_docid →
    Led m.least (got c 0) → Whole m.strip m.least m.count v c → last_doc 0 c ≡ m.greatest → top_score 0 c ≡ m.top → Only prev m v c
only prev m v [] above some few most f w l t = absurd (omega (arith, w.count))
only prev m v (p ∷ ps) above some few most f w l t =
    record {
      sum = λ i. record { least = f i; greatest = l i; top = t i; count = w.count i; strip = m.strip };
      body = sym w.bytes;
      fine = (w.rise prev above, w.scores, omega (arith, w.count), omega arith);
      last = l;
    }

-- the postings of a block
abbrev pub chunk : Summary → List ℕ → List Post
chunk m v = read_or (body_posts m v)

block-only : (prev : ℕ) (m : Summary) (v : List ℕ) → Bytes v → m.greatest ≤ max_docid → right_sum prev m ≡ true → right_body m v ≡ true → Only prev m v (chunk m v)
block-only prev m v h most e f =
    let k = right_facts prev m e in
    let r = right-body m v h k.some f in
    let q : Led m.least (got r.posts r.taken) = rw r.reads at (body_led m v) in
    rw r.reads (only prev m v r.posts k.above k.some (right-few prev m e) most (lead r.posts r.taken q) r.whole r.last r.top)
  where
    lead : (c : List Post) (k : ℕ) → Led m.least (got c k) → Led m.least (got c 0)
    lead [] k q = tt
    lead (p ∷ ps) k q = q

-- ---- the blocks

abbrev pub chunks : List Block → List (List Post)
chunks [] = []
chunks (b ∷ bs) = chunk b.sum b.body ∷ chunks bs

-- n blocks of one layout whose summaries begin with the bytes m and whose bodies, up to offset e, with the bytes s, at b
pub record Blocks (strip : Bool) (n prev b e : ℕ) (m s : List ℕ) (bs : List Block) : Type 0 where
  pub count : length bs ≡ n
  pub layout : All (λ (x : Block). x.sum.strip ≡ strip) bs
  pub summaries : sums_bytes strip (chunks bs) ++ drop (12 * n) m ≡ m
  pub bodied : bodies_bytes strip (chunks bs) ++ drop (e - b) s ≡ s
  pub fine : Fines prev (chunks bs)
  pub sized : All (λ (x : Block). length (chunk x.sum x.body) ≡ x.sum.count) bs

value-bytes : (s : List ℕ) → Bytes s → Bytes (field_value s)
unfolding field_value
value-bytes s h = bytes_take (field_len s) (drop 3 s) (bytes_drop 3 s h)

greatest-small : (strip : Bool) (s : List ℕ) → Bytes s → is_sum s ≡ true → (sum_of strip s).greatest ≤ max_docid
unfolding sum_of
greatest-small strip s h i = omega (arith, num-below 3 (drop 6 s) (bytes_drop 6 s h) (omega (arith, length-drop 6 s, sum_room s i)))

size_of : (strip : Bool) (c : List Post) (m : Summary) → summary_of strip c ≡ m → length c ≡ m.count
size_of strip [] m e = ap (λ (x : Summary). x.count) e
size_of strip (p ∷ ps) m e = ap (λ (x : Summary). x.count) e

-- the summary that the walk judged, with the layout of its body
strip-of : (strip : Bool) (m : List ℕ) → (sum_of strip m).strip ≡ strip
unfolding sum_of
strip-of strip m = refl

module _ (strip : Bool) where
  blocks-none : (prev a b c e : ℕ) (m s : List ℕ) → bodies_of strip 0 b s ≡ done e → Blocks strip 0 prev b e m s (blocks_of 0 a m c s)
  unfolding bodies_of blocks_of sums_bytes bodies_bytes
  blocks-none prev a b c e m s q =
      let z : b ≡ e = cc in
      let y : e - b ≡ 0 = omega arith in
      record { count = refl; layout = tt; summaries = refl; bodied = rw y; fine = tt; sized = tt }

  blocks_cons : (n prev a b e : ℕ) (m s : List ℕ) → Bytes m → is_sum m ≡ true → Bytes s → whole (tag_of strip) s ≡ true → b + (3 + field_len s) ≤ e →
      Only prev (sum_of strip m) (field_value s) (chunk (sum_of strip m) (field_value s)) → (bs : List Block) →
      Blocks strip n (sum_of strip m).greatest (b + (3 + field_len s)) e (drop 12 m) (drop (3 + field_len s) s) bs →
      Blocks strip (suc n) prev b e m s (record { at = a; sum = sum_of strip m; body_at = b; body = field_value s } ∷ bs)
  unfolding sums_bytes bodies_bytes sum_of
  blocks_cons n prev a b e m s hm i hs w l o bs r =
      let k = 3 + field_len s in
      let c = chunk (sum_of strip m) (field_value s) in
      let x : 12 * suc n ≡ 12 + 12 * n = omega arith in
      let y : e - b ≡ k + (e - (b + k)) = omega arith in
      let sum : summary_of strip c ≡ sum_of strip m = rw (strip-of strip m) at o.sum in
      let body : body_bytes strip c ≡ field_value s = rw (strip-of strip m) at o.body in
      record {
        count = ap suc r.count;
        layout = (strip-of strip m, r.layout);
        summaries =
            rw (x, ← drop-drop (12 * n) 12 m, append_assoc (sum_bytes (summary_of strip c)) (sums_bytes strip (chunks bs)) (drop (12 * n) (drop 12 m)), r.summaries, sum) (sum-only strip m hm i);
        bodied =
            rw (y, ← drop-drop (e - (b + k)) k s, append_assoc (field_bytes (tag_of strip) (body_bytes strip c)) (bodies_bytes strip (chunks bs)) (drop (e - (b + k)) (drop k s)), r.bodied, body) (field-only (tag_of strip) s hs w);
        fine = (o.fine, rw o.last r.fine);
        sized = (size_of strip c (sum_of strip m) sum, r.sized);
      }

  blocks-only : (n prev a b d e : ℕ) (m s : List ℕ) → Bytes m → Bytes s → sums n prev a m ≡ done d → bodies_of strip n b s ≡ done e → bad_body (blocks_of n a m b s) ≡ None →
      Blocks strip n prev b e m s (blocks_of n a m b s)
  unfolding sums one_sum bodies_of one_body blocks_of
  blocks-only zero prev a b d e m s hm hs p q f = blocks-none prev a b b e m s q
  blocks-only (suc n) prev a b d e m s hm hs p q f =
      let k = 3 + field_len s in
      split (is_sum m)
      (λ i. split (right_sum prev (sum_of false m))
      (λ r. split (whole (tag_of strip) s)
      (λ w.
      let lay : is_strip s ≡ strip = strip-is strip s w in
      split (right_body (sum_of strip m) (field_value s))
      (λ t.
      let p1 : sums n (sum_of false m).greatest (a + 12) (drop 12 m) ≡ done d = rw (i, r) at p in
      let p2 : sums n (sum_of strip m).greatest (a + 12) (drop 12 m) ≡ done d = rw (any_greatest strip m) p1 in
      let q1 : bodies_of strip n (b + k) (drop k s) ≡ done e = rw w at q in
      let f1 : bad_body (blocks_of n (a + 12) (drop 12 m) (b + k) (drop k s)) ≡ None = rw (lay, t) at f in
      let ih = blocks-only n (sum_of strip m).greatest (a + 12) (b + k) d e (drop 12 m) (drop k s) (bytes_drop 12 m hm) (bytes_drop k s hs) p2 q1 f1 in
      let o = block-only prev (sum_of strip m) (field_value s) (value-bytes s hs) (greatest-small strip m hm i) (any_strip strip prev m ∙ r) t in
      rw lay (blocks_cons n prev a b e m s hm i hs w (bodies-place strip n (b + k) (drop k s) e q1).0 o (blocks_of n (a + 12) (drop 12 m) (b + k) (drop k s)) ih))
      (λ t. let g : Some b ≡ None = rw (lay, t) at f in let z : ◌≡◌ {A = ℕ} 0 1 = cc in absurd (omega arith)))
      (λ w. let g : refused 6 b ≡ done e = rw w at q in let z : ◌≡◌ {A = ℕ} 0 1 = cc in absurd (omega arith)))
      (λ r. let g : refused 7 a ≡ done d = rw (i, r) at p in let z : ◌≡◌ {A = ℕ} 0 1 = cc in absurd (omega arith)))
      (λ i. let g : refused 6 a ≡ done d = rw i at p in let z : ◌≡◌ {A = ℕ} 0 1 = cc in absurd (omega arith))

-- ---- the list

-- the blocks of a list that reads, whose bodies are right, and which begins the bytes s, at an offset
pub record Reads (floor at : ℕ) (s : List ℕ) (l : Listing) : Type 0 where
  pub above : floor ≤ l.place.term
  pub small : l.place.term < 2 ^ 32
  pub within : l.place.next ≤ at + length s
  pub bytes : blocks_bytes (strip_of l.blocks) l.place.term (chunks l.blocks) ++ drop (l.place.next - at) s ≡ s
  pub few : length l.blocks ≤ per_list
  pub some : 0 < length l.blocks
  pub fine : Fines 0 (chunks l.blocks)
  pub sized : All (λ (x : Block). length (chunk x.sum x.body) ≡ x.sum.count) l.blocks

pub chunks_length : (bs : List Block) → length (chunks bs) ≡ length bs
chunks_length [] = refl
chunks_length (b ∷ bs) = ap suc (chunks_length bs)

head-count : (floor : ℕ) (s : List ℕ) → right_head floor s ≡ true → (floor ≤ head_term s) × (0 < head_count s) × (head_count s ≤ per_list)
unfolding right_head
head-count floor s i =
    let a = and-true (whole 1 s) _ i in
    let b = and-true (eqb (field_len s) 5) _ a.1 in
    let c = and-true (leb floor (head_term s)) _ b.1 in
    let d = and-true (ltb 0 (head_count s)) _ c.1 in
    (leb-true _ _ c.0, ltb-true _ _ d.0, leb-true _ _ d.1)

term-small : (floor : ℕ) (s : List ℕ) → Bytes s → right_head floor s ≡ true → head_term s < 2 ^ 32
unfolding head_term
term-small floor s h i = num-below 4 (drop 3 s) (bytes_drop 3 s h) (omega (arith, length-drop 3 s, head-room floor s i))

-- all bodies of a list have the first one's layout
one_layout : (n b : ℕ) (s : List ℕ) (e : ℕ) → bodies n b s ≡ done e → bodies_of (is_strip s) n b s ≡ done e
unfolding bodies
one_layout n b s e q = q

-- three parts of some bytes, x and y long and to place k past them
three : (u v w s : List ℕ) (x y k : ℕ) → u ++ drop x s ≡ s → v ++ drop y (drop x s) ≡ drop x s → w ++ drop k (drop (x + y) s) ≡ drop (x + y) s →
    (u ++ (v ++ w)) ++ drop (x + y + k) s ≡ s
three u v w s x y k a b c =
    rw (← drop-drop k (x + y) s, append_assoc u (v ++ w) (drop k (drop (x + y) s)), append_assoc v w (drop k (drop (x + y) s)), c, ← drop-drop y x s, b) a

-- blocks of one layout have their list's
strips : (strip : Bool) (bs : List Block) → 0 < length bs → All (λ (x : Block). x.sum.strip ≡ strip) bs → strip_of bs ≡ strip
strips strip [] h all = absurd (omega arith)
strips strip (b ∷ bs) h all = all.0

listed_reads : (strip : Bool) (floor at next : ℕ) (s : List ℕ) → Bytes s → right_head floor s ≡ true → at + 8 + 12 * head_count s ≤ next → next ≤ at + length s →
    Blocks strip (head_count s) 0 (at + 8 + 12 * head_count s) next (drop 8 s) (drop (8 + 12 * head_count s) s) (listed at next s).blocks → Reads floor at s (listed at next s)
unfolding blocks_bytes
listed_reads strip floor at next s h i l m b =
    let n = head_count s in
    let cs = chunks (listed at next s).blocks in
    let k = next - (at + 8 + 12 * n) in
    let head = field_bytes 1 (be 4 (head_term s) ++ be 1 n) in
    let count : length cs ≡ n = chunks_length (listed at next s).blocks ∙ b.count in
    let far : next - at ≡ 8 + 12 * n + k = omega arith in
    let hc = head-count floor s i in
    let lay : strip_of (listed at next s).blocks ≡ strip = strips strip (listed at next s).blocks (omega (arith, b.count, hc.1)) b.layout in
    record {
      above = hc.0;
      small = term-small floor s h i;
      within = m;
      bytes = rw (lay, count, far) (three head (sums_bytes strip cs) (bodies_bytes strip cs) s 8 (12 * n) k (header_only floor s h i) b.summaries b.bodied);
      few = omega (arith, b.count, hc.2);
      some = omega (arith, b.count, hc.1);
      fine = b.fine;
      sized = b.sized;
    }

abbrev ReadsIf : (floor at : ℕ) → List ℕ → Outcome Listing → Type 0
ReadsIf floor at s (refused n o) = Unit {0}
ReadsIf floor at s (done l) = bad_body l.blocks ≡ None → Reads floor at s l

reads_if : (floor at : ℕ) (s : List ℕ) → Bytes s → ReadsIf floor at s (list floor at s)
unfolding list
reads_if floor at s h =
    split (right_head floor s)
    (λ i. rw i (on_sums i (sums (head_count s) 0 (at + 8) (drop 8 s)) refl))
    (λ i. rw i tt)
  where
    on_bodies : (d : ℕ) → right_head floor s ≡ true → sums (head_count s) 0 (at + 8) (drop 8 s) ≡ done d → (r : Outcome ℕ) → bodies (head_count s) d (drop (8 + 12 * head_count s) s) ≡ r →
        ReadsIf floor at s (and_then r (λ next. done (listed at next s)))
    on_bodies d i e (refused k o) q = tt
    on_bodies d i e (done next) q = λ f.
        let w : d ≡ at + 8 + 12 * head_count s = (sums-place (head_count s) 0 (at + 8) (drop 8 s) d e).0 in
        let q1 : bodies (head_count s) (at + 8 + 12 * head_count s) (drop (8 + 12 * head_count s) s) ≡ done next = rw w at q in
        let place = all-place (head_count s) (at + 8 + 12 * head_count s) (drop (8 + 12 * head_count s) s) next q1 in
        let room = (sums-place (head_count s) 0 (at + 8) (drop 8 s) d e).1 in
        listed_reads (is_strip (drop (8 + 12 * head_count s) s)) floor at next s h i place.0 (omega (arith, place.1, room, length-drop 8 s, length-drop (8 + 12 * head_count s) s, head-room floor s i))
        (blocks-only (is_strip (drop (8 + 12 * head_count s) s)) (head_count s) 0 (at + 8) (at + 8 + 12 * head_count s) d next (drop 8 s) (drop (8 + 12 * head_count s) s) (bytes_drop 8 s h) (bytes_drop (8 + 12 * head_count s) s h) e (one_layout (head_count s) (at + 8 + 12 * head_count s) (drop (8 + 12 * head_count s) s) next q1) f)

    on_sums : right_head floor s ≡ true → (r : Outcome ℕ) → sums (head_count s) 0 (at + 8) (drop 8 s) ≡ r →
        ReadsIf floor at s (and_then r (λ d. and_then (bodies (head_count s) d (drop (8 + 12 * head_count s) s)) (λ next. done (listed at next s))))
    on_sums i (refused k o) e = tt
    on_sums i (done d) e = on_bodies d i e (bodies (head_count s) d (drop (8 + 12 * head_count s) s)) refl

-- a list that reads, and whose bodies are right, is what is written for its blocks
pub list-only : (floor at : ℕ) (s : List ℕ) (l : Listing) → Bytes s → list floor at s ≡ done l → bad_body l.blocks ≡ None → Reads floor at s l
list-only floor at s l h e = rw e at (reads_if floor at s h)
