-- A list in its two layouts: the same blocks, as many bytes, the same summaries; and the list that was turned stands by itself. Assumes nothing.
use Prim.Native.Nat.{ℕ, ◌-◌}
use native.Mathlib.Omega.{arith}
use mathlib.Core.Path.{◌≡◌, refl, sym, ap, ap₂, ◌∙◌}
use mathlib.Core.List.{List, [], ◌∷◌, ◌++◌}
use mathlib.Core.Bool.{Bool, not}
use lib.ListN.{length, take, drop, length-append}
use Rattle.model.specs.Outcome.{done}
use Rattle.model.specs.Post.{Post}
use Rattle.model.specs.Runs.{Bytes}
use Rattle.model.proofs.Lists.{bytes_drop}
use Rattle.wire.specs.Field.{field_bytes}
use Rattle.wire.proofs.Fields.{field-size}
use Rattle.block.specs.Body.{tag_of, body_bytes}
use Rattle.block.specs.Summary.{sum_bytes, summary_of}
use Rattle.block.proofs.Bodies.{body-even}
use Rattle.shelf.specs.Walk.{Block, Listing, strip_of, list}
use Rattle.shelf.specs.Check.{bad_body}
use Rattle.std.specs.Prelude.{None}
use Rattle.shelf.proofs.Walks.{list-walked}
use Rattle.list.specs.Write.{sums_bytes, bodies_bytes, blocks_bytes}
use Rattle.list.proofs.Writes.{blocks-size}
use Rattle.list.proofs.Canonical.{chunk, chunks, chunks_length, Reads, list-only}
use Rattle.list.proofs.WritesBack.{posts-joined, front_of, read_writable}
use Rattle.list.proofs.Pieces.{blocks-stand}
use Rattle.change.specs.Bytes.{piece_of}
use Rattle.change.proofs.Pieces.{Standing}
use Rattle.convert.specs.Convert.{chunks_of, turned}

-- ---- blocks in two layouts

pub chunks_are : (bs : List Block) → chunks_of bs ≡ chunks bs
chunks_are [] = refl
chunks_are (b ∷ bs) = ap (λ (x : List (List Post)). chunk b.sum b.body ∷ x) (chunks_are bs)

pub bodies-even : (a b : Bool) (cs : List (List Post)) → length (bodies_bytes a cs) ≡ length (bodies_bytes b cs)
unfolding bodies_bytes
bodies-even a b [] = refl
bodies-even a b (c ∷ cs) =
    omega (
      arith,
      length-append (field_bytes (tag_of a) (body_bytes a c)) (bodies_bytes a cs),
      length-append (field_bytes (tag_of b) (body_bytes b c)) (bodies_bytes b cs),
      field-size (tag_of a) (body_bytes a c),
      field-size (tag_of b) (body_bytes b c),
      body-even a c,
      body-even b c,
      bodies-even a b cs,
    )

-- a summary's bytes say nothing of the layout
sum-even : (a b : Bool) (c : List Post) → sum_bytes (summary_of a c) ≡ sum_bytes (summary_of b c)
unfolding sum_bytes
sum-even a b [] = refl
sum-even a b (p ∷ ps) = refl

pub sums-even : (a b : Bool) (cs : List (List Post)) → sums_bytes a cs ≡ sums_bytes b cs
unfolding sums_bytes
sums-even a b [] = refl
sums-even a b (c ∷ cs) = ap₂ (λ (x : List ℕ) (y : List ℕ). x ++ y) (sum-even a b c) (sums-even a b cs)

blocks-even : (a b : Bool) (t : ℕ) (cs : List (List Post)) → length (blocks_bytes a t cs) ≡ length (blocks_bytes b t cs)
blocks-even a b t cs = omega (arith, blocks-size a t cs, blocks-size b t cs, bodies-even a b cs)

-- ---- a list of a sound shelf

module _ (floor at : ℕ) (s : List ℕ) (l : Listing) (h : Bytes s) (e : list floor at (drop at s) ≡ done l) (f : bad_body l.blocks ≡ None) where
  pub list_reads : Reads floor at (drop at s) l
  list_reads = list-only floor at (drop at s) l (bytes_drop at s h) e f

  -- its bytes are what is written for its blocks
  pub own-bytes : (piece_of s l).bytes ≡ blocks_bytes (strip_of l.blocks) l.place.term (chunks_of l.blocks)
  own-bytes =
      let r = list_reads in
      let here : take (l.place.next - l.place.at) (drop l.place.at s) ≡ take (l.place.next - at) (drop at s) = rw (list-walked floor at s l e).start in
      let v = front_of (blocks_bytes (strip_of l.blocks) l.place.term (chunks l.blocks)) (drop at s) (l.place.next - at) (omega (arith, r.within)) r.bytes in
      here ∙ sym v.0 ∙ ap (blocks_bytes (strip_of l.blocks) l.place.term) (sym (chunks_are l.blocks))

  -- turned, it stands by itself, and is as long
  pub turned_stands : Standing (turned l)
  turned_stands =
      let r = list_reads in
      let n = chunks_length l.blocks in
      record {
        stands = rw (posts-joined l.blocks, chunks_are l.blocks)
            (blocks-stand (not (strip_of l.blocks)) l.place.term (chunks l.blocks) r.small (omega (arith, r.some)) (omega (arith, r.few)) r.fine);
        small = r.small;
        may = read_writable floor at (drop at s) l (bytes_drop at s h) e f;
      }

  pub turned-size : length (turned l).bytes ≡ length (piece_of s l).bytes
  turned-size = blocks-even (not (strip_of l.blocks)) (strip_of l.blocks) l.place.term (chunks_of l.blocks) ∙ sym (ap length own-bytes)
