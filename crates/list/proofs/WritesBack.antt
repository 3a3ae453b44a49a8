-- A sound list may be written again, and with every block but the last full that gives the same bytes. Assumes nothing.
use Prim.Native.Nat.{ℕ, zero, suc, ◌*◌, ◌-◌, ◌≤◌, ◌<◌}
use native.Mathlib.Omega.{arith}
use mathlib.Core.Path.{◌≡◌, refl, sym, ap, ◌∙◌}
use mathlib.Core.List.{List, [], ◌∷◌, ◌++◌, append-nil}
use lib.ListN.{length, take, drop, length-append, length-drop, drop_of_length-le}
use lib.Seq.{take_all, take_at, drop_at}
use Rattle.model.specs.Limits.{max_docid}
use Rattle.model.specs.Outcome.{done}
use Rattle.model.specs.Post.{Post, postings, docs, scores, Rising, Scored, last_doc}
use Rattle.model.specs.Runs.{All, Bytes}
use Rattle.model.proofs.Lists.{All_append, map-length}
use Rattle.model.proofs.Posts.{last-append, rising-join}
use Rattle.shelf.specs.Walk.{Block, Listing, posts_of, strip_of, list}
use Rattle.shelf.specs.Check.{bad_body}
use Rattle.std.specs.Prelude.{None}
use Rattle.list.specs.Write.{packed, list_bytes, Writable, Paired, Full, write_list}
use Rattle.list.proofs.Writes.{Fine, Fines, joined, list-bytes}
use Rattle.list.proofs.Accepted.{accepted-written}
use Rattle.list.proofs.Canonical.{chunk, chunks, chunks_length, list-only}

pub posts-joined : (bs : List Block) → posts_of bs ≡ joined (chunks bs)
posts-joined [] = refl
posts-joined (b ∷ bs) = ap (λ (ps : List Post). chunk b.sum b.body ++ ps) (posts-joined bs)

-- ---- the writer's blocks are those that were read

packed-end : (n : ℕ) → packed n [] ≡ []
unfolding packed
packed-end zero = refl
packed-end (suc n) = refl

packed_full : (n : ℕ) (c r : List Post) → length c ≡ 100 → packed (suc n) (c ++ r) ≡ c ∷ packed n r
unfolding packed
packed_full n [] r e = absurd (omega arith)
packed_full n (p ∷ ps) r e =
    let k : length ps ≡ 99 = omega arith in
    rw (take_at ps r 99 k, drop_at ps r 99 k)

packed-last : (n : ℕ) (c : List Post) → 0 < length c → length c ≤ 100 → packed (suc n) c ≡ c ∷ []
unfolding packed
packed-last n [] h k = absurd (omega arith)
packed-last n (p ∷ ps) h k = rw (take_all 99 ps (omega arith), drop_of_length-le ps {i = 99} (omega arith), packed-end n)

fine_some : (p : ℕ) (c : List Post) → Fine p c → 0 < length c
fine_some p [] f = absurd f
fine_some p (x ∷ xs) f = omega arith

pub fine_few : (p : ℕ) (c : List Post) → Fine p c → length c ≤ 100
fine_few p [] f = absurd f
fine_few p (x ∷ xs) f = f.2

packed_chunks : (n p : ℕ) (bs : List Block) → length bs ≤ n → Fines p (chunks bs) → All (λ (x : Block). length (chunk x.sum x.body) ≡ x.sum.count) bs → Full bs →
    packed n (joined (chunks bs)) ≡ chunks bs
packed_chunks n p [] h f z u = packed-end n
packed_chunks zero p (b ∷ bs) h f z u = absurd (omega arith)
packed_chunks (suc n) p (b ∷ []) h f z u =
    let c = chunk b.sum b.body in
    rw (append-nil c) (packed-last n c (fine_some p c f.0) (fine_few p c f.0))
packed_chunks (suc n) p (b ∷ d ∷ bs) h f z u =
    let c = chunk b.sum b.body in
    packed_full n c (joined (chunks (d ∷ bs))) (z.0 ∙ u.0)
    ∙ ap (λ (x : List (List Post)). c ∷ x) (packed_chunks n (last_doc p c) (d ∷ bs) (omega arith) f.1 z.1 u.1)

-- ---- the postings that were read may be written

record Joined (p n : ℕ) (ps : List Post) : Type 0 where
  few : length ps ≤ 100 * n
  rise : Rising p ps
  scored : Scored ps
  last : p ≤ max_docid → last_doc p ps ≤ max_docid

fines_joined : (p : ℕ) (cs : List (List Post)) → Fines p cs → Joined p (length cs) (joined cs)
fines_joined p [] f = record { few = omega arith; rise = tt; scored = tt; last = λ h. h }
fines_joined p ([] ∷ cs) f = absurd f.0
fines_joined p ((x ∷ xs) ∷ cs) f =
    let c = x ∷ xs in
    let r = fines_joined (last_doc p c) cs f.1 in
    record {
      few = omega (arith, length-append c (joined cs), f.0.2, r.few);
      rise = rising-join p c (joined cs) f.0.0 r.rise;
      scored = All_append (λ (y : Post). (0 < y.score) × (y.score ≤ 65535)) c (joined cs) f.0.1 r.scored;
      last = λ h. rw (last-append p c (joined cs)) (r.last f.0.3);
    }

joined-some : (p : ℕ) (cs : List (List Post)) → Fines p cs → 0 < length cs → 0 < length (joined cs)
joined-some p [] f h = absurd (omega arith)
joined-some p ([] ∷ cs) f h = absurd f.0
joined-some p ((x ∷ xs) ∷ cs) f h = omega (arith, length-append (x ∷ xs) (joined cs))

runs-postings : (ps : List Post) → postings (docs ps) (scores ps) ≡ ps
runs-postings [] = refl
runs-postings (p ∷ ps) = ap (λ (qs : List Post). p ∷ qs) (runs-postings ps)

pub runs-paired : (ps : List Post) → Writable ps → Paired (docs ps) (scores ps)
runs-paired ps w = record { same = map-length (λ (p : Post). p.doc) ps ∙ sym (map-length (λ (p : Post). p.score) ps); may = rw (runs-postings ps) w }

-- the front of some bytes
pub front_of : (v s : List ℕ) (k : ℕ) → k ≤ length s → v ++ drop k s ≡ s → (v ≡ take k s) × (length v ≡ k)
front_of v s k h e =
    let n : length v ≡ k = omega (arith, length-append v (drop k s), length-drop k s, ap length e) in
    (sym (take_at v (drop k s) k n) ∙ ap (take k) e, n)

module _ (floor at : ℕ) (s : List ℕ) (l : Listing) (h : Bytes s) (e : list floor at s ≡ done l) (f : bad_body l.blocks ≡ None) where
  -- the postings of a list that was read, its bodies right, may be written
  pub read_writable : Writable (posts_of l.blocks)
  read_writable =
      let r = list-only floor at s l h e f in
      let n = chunks_length l.blocks in
      let j = fines_joined 0 (chunks l.blocks) r.fine in
      rw (posts-joined l.blocks)
      (record {
        some = joined-some 0 (chunks l.blocks) r.fine (omega (arith, r.some));
        few = omega (arith, j.few, r.few);
        rise = j.rise;
        scores = j.scored;
        last = j.last (omega arith);
      })

  -- "a sound list with every block but the last full, read and written, is the same bytes"
  pub packed_writes_back : Full l.blocks → list_bytes (strip_of l.blocks) l.place.term (posts_of l.blocks) ++ drop (l.place.next - at) s ≡ s
  packed_writes_back u =
      let r = list-only floor at s l h e f in
      rw (list-bytes (strip_of l.blocks) l.place.term (posts_of l.blocks), posts-joined l.blocks, packed_chunks 64 0 l.blocks r.few r.fine r.sized u) r.bytes

  -- the same through the writer: the runs that were read give the bytes that were read
  pub written_back : Full l.blocks → (room : ℕ) → l.place.next - at ≤ room →
      write_list (strip_of l.blocks) l.place.term (docs (posts_of l.blocks)) (scores (posts_of l.blocks)) room ≡ done (take (l.place.next - at) s)
  written_back u room fits =
      let strip = strip_of l.blocks in
      let t = l.place.term in
      let ps = posts_of l.blocks in
      let r = list-only floor at s l h e f in
      let b = front_of (list_bytes strip t ps) s (l.place.next - at) (omega (arith, r.within)) (packed_writes_back u) in
      let q : list_bytes strip t (postings (docs ps) (scores ps)) ≡ take (l.place.next - at) s = ap (list_bytes strip t) (runs-postings ps) ∙ b.0 in
      let n : length (list_bytes strip t (postings (docs ps) (scores ps))) ≤ room = omega (arith, ap length (ap (list_bytes strip t) (runs-postings ps)), b.1) in
      accepted-written strip t (docs ps) (scores ps) room (runs-paired ps read_writable) n ∙ ap done q
