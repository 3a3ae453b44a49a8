-- The private contracts of withdrawing: what is left of a list, and of all lists. Assumes nothing.
use Rattle.std.specs.Prelude.{ℕ, ◌-◌, ◌≡◌, List, Bool, cond, length, take, drop, ◌≤◌}
use Rattle.model.specs.Post.{Post, docs, Rising}
use Rattle.model.specs.Runs.{has}
use Rattle.shelf.specs.Walk.{Listing, posts_of, strip_of, blocks_at}
use Rattle.shelf.specs.Check.{bad_body}
use Rattle.shelf.specs.Answers.{Ready}
use Rattle.shelf.specs.declared.walk.Place.{Place}
use Rattle.std.specs.Prelude.{None}
use Rattle.list.specs.Write.{Writable}
use Rattle.list.specs.Fill.{Fillable}
use Rattle.change.specs.Edits.{clear_post, every}
use Rattle.change.specs.Bytes.{pieces, joined, holds, clear_pieces, some}
use Rattle.change.specs.Seat.{packed_bytes}
use Rattle.edit.specs.declared.withdraw.Left.{Left}

abbrev pub posts_at : List ℕ → Place → List Post
posts_at s p = posts_of (blocks_at s p.at p.count)

-- the layout of its bodies
abbrev pub layout_at : List ℕ → Place → Bool
layout_at s p = strip_of (blocks_at s p.at p.count)

-- a list of a sound shelf, as far as a docid is sought in it
pub record Sought (s : List ℕ) (p : Place) : Type 0 where
  pub ready : Ready s p
  pub right : bad_body (blocks_at s p.at p.count) ≡ None
  pub rise : Rising 0 (posts_at s p)

-- a list of a sound shelf, and room for its postings
pub record Sized (s : List ℕ) (p : Place) (ds ss : List ℕ) : Type 0 where
  pub fills : Fillable s p (length ds) (length ss)
  pub may : Writable (posts_at s p)
  pub order : p.at ≤ p.next
  pub inside : p.next ≤ length s

-- a list's bytes with docid d cleared: as they stand where it does not hold it
abbrev pub left_bytes : List ℕ → Place → (d : ℕ) → List ℕ
left_bytes s p d = cond (has d (docs (posts_at s p))) (packed_bytes (layout_at s p) p.term (clear_post d (posts_at s p))) (take (p.next - p.at) (drop p.at s))

pub record LeftOf (s : List ℕ) (p : Place) (d : ℕ) (r : Left) : Type 0 where
  pub bytes : r.bytes ≡ length (left_bytes s p d)
  pub held : r.held ≡ has d (docs (posts_at s p))

pub record Measures (s : List ℕ) (d : ℕ) (ls : List Listing) (r : Left) : Type 0 where
  pub bytes : r.bytes ≡ length (joined (clear_pieces every d (pieces s ls)))
  pub held : r.held ≡ some (holds every d) (pieces s ls)
