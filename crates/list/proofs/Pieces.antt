-- A list's bytes are read as the same list wherever they stand: packed anew, or copied from a sound shelf. Assumes nothing.
use Prim.Native.Nat.{ℕ, ◌+◌, ◌*◌, ◌-◌, ◌^◌, ◌≤◌, ◌<◌}
use native.Mathlib.Omega.{arith}
use mathlib.Core.Path.{◌≡◌, refl, subst}
use mathlib.Core.Bool.{Bool}
use mathlib.Core.List.{List, ◌++◌}
use lib.ListN.{length, take}
use Rattle.model.specs.Limits.{per_list}
use Rattle.model.specs.Outcome.{done}
use Rattle.model.specs.Post.{Post}
use Rattle.model.specs.Runs.{Bytes}
use Rattle.shelf.specs.Walk.{Listing, posts_of, strip_of, list}
use Rattle.shelf.specs.Check.{bad_body}
use Rattle.std.specs.Prelude.{None}
use Rattle.list.specs.Write.{packed, blocks_bytes, list_bytes, Writable}
use Rattle.list.proofs.Writes.{Fines, blocks-size, written, list_round, bad_round, posts_round, strip_round, joined, packed-joined, packed-few, packed-some, writable_fine, list-bytes}
use Rattle.list.proofs.Canonical.{chunks, chunks_length, list-only}
use Rattle.list.proofs.WritesBack.{posts-joined, front_of}

-- at this place of a shelf the bytes v are read as a list of term t that holds ps, in a layout
pub record ReadsAt (strip : Bool) (t : ℕ) (ps : List Post) (v : List ℕ) (floor at : ℕ) (r : List ℕ) : Type 0 where
  pub found : Listing
  pub reads : list floor at (v ++ r) ≡ done found
  pub term : found.place.term ≡ t
  pub start : found.place.at ≡ at
  pub next : found.place.next ≡ at + length v
  pub posts : posts_of found.blocks ≡ ps
  pub layout : strip_of found.blocks ≡ strip
  pub right : bad_body found.blocks ≡ None

-- they are read so at any place, after lists of lower terms and whatever follows
pub record Stands (strip : Bool) (t : ℕ) (ps : List Post) (v : List ℕ) : Type 0 where
  pub size : 0 < length v
  pub reads : (floor at : ℕ) (r : List ℕ) → floor ≤ t → ReadsAt strip t ps v floor at r

-- a list of any blocks that may be written
pub blocks-stand : (strip : Bool) (t : ℕ) (bs : List (List Post)) → t < 2 ^ 32 → 0 < length bs → length bs ≤ per_list → Fines 0 bs → Stands strip t (joined bs) (blocks_bytes strip t bs)
blocks-stand strip t bs small some few f =
    record {
      size = omega (arith, blocks-size strip t bs);
      reads = λ floor at r low. record {
        found = written strip t at bs;
        reads = list_round strip floor t at bs r small low some few f;
        term = refl;
        start = refl;
        next = omega (arith, blocks-size strip t bs);
        posts = posts_round strip 0 (at + 8) (at + 8 + 12 * length bs) bs f;
        layout = strip_round strip (at + 8) (at + 8 + 12 * length bs) bs some;
        right = bad_round strip 0 (at + 8) (at + 8 + 12 * length bs) bs f;
      };
    }

-- a list that is packed anew
pub packed_stands : (strip : Bool) (t : ℕ) (ps : List Post) → t < 2 ^ 32 → Writable ps → Stands strip t ps (list_bytes strip t ps)
packed_stands strip t ps small w =
    rw (list-bytes strip t ps)
    (subst (λ (qs : List Post). Stands strip t qs (blocks_bytes strip t (packed 64 ps))) (packed-joined 64 ps w.few)
    (blocks-stand strip t (packed 64 ps) small (packed-some 63 ps w.some) (packed-few 64 ps) (writable_fine ps w)))

-- a list that is copied byte for byte
pub copied_stands : (floor at : ℕ) (s : List ℕ) (l : Listing) → Bytes s → list floor at s ≡ done l → bad_body l.blocks ≡ None →
    Stands (strip_of l.blocks) l.place.term (posts_of l.blocks) (take (l.place.next - at) s)
copied_stands floor at s l h e f =
    let r = list-only floor at s l h e f in
    let cs = chunks l.blocks in
    let n = chunks_length l.blocks in
    let v = front_of (blocks_bytes (strip_of l.blocks) l.place.term cs) s (l.place.next - at) (omega (arith, r.within)) r.bytes in
    rw (posts-joined l.blocks, ← v.0)
    (blocks-stand (strip_of l.blocks) l.place.term cs r.small (omega (arith, r.some)) (omega (arith, r.few)) r.fine)
