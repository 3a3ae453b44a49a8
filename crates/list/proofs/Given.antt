-- What a list's reader answers, by the tests that its code makes. Assumes nothing.
use Prim.Native.Nat.{ℕ, ◌≤◌, ◌<◌, min}
use native.Mathlib.Omega.{arith}
use mathlib.Core.Path.{◌≡◌, refl, ap, ◌∙◌}
use mathlib.Core.List.{List, ◌++◌}
use borrow.Author.Tests.{le-leb, lt-leb}
use lib.ListN.{length, drop}
use Rattle.model.specs.Outcome.{Outcome, refused, done}
use Rattle.model.specs.Post.{Post, docs, scores}
use Rattle.model.specs.Runs.{Stored}
use Rattle.model.proofs.Lists.{map-length}
use Rattle.model.proofs.Storing.{stored-holds}
use Rattle.shelf.specs.Walk.{Block, Listing, blocks_at, posts_of}
use Rattle.shelf.specs.Check.{bad_body}
use Rattle.shelf.specs.Answers.{Ready}
use Rattle.lookup.specs.Find.{found}
use Rattle.shelf.specs.Answers.{placed}
use Rattle.lookup.proofs.Stands.{found_stands}
use Rattle.shelf.specs.declared.walk.Place.{Place}
use Rattle.std.specs.Prelude.{Some, None}
use Rattle.list.specs.Answer.{Gives}
use Rattle.list.specs.Read.{count_of, read_blocks, read_list, Reads}
use Rattle.list.specs.Fill.{Fillable, Filled}
use Rattle.std.specs.Prelude.{Ok, Err}
use Rattle.model.specs.Refusal.{number}
use Rattle.model.specs.declared.refusal.Refusal.{Refusal}
use Rattle.list.proofs.Pours.{right-count}

-- a refusal leaves both runs as they were
pub reads_refused : (o : Outcome (List Post)) (r : Refusal) (ds ss : List ℕ) → o ≡ refused (number r.fault) r.offset → Reads o ds ss ds ss (Err r)
reads_refused o r ds ss e = rw e record {
  docids = record { answers = refl; holds = refl };
  scored = record { answers = refl; holds = refl };
}

-- what was stored from the front on is what is given
gives-stored : (v l m : List ℕ) (r : ℕ) → length v ≤ length l → Stored l m 0 r v → Gives (done v) l m (Ok r)
gives-stored v l m r h s =
    let g = stored-holds h s in
    record { answers = ap done g.count; holds = g.whole ∙ ap (λ (k : ℕ). v ++ drop k l) g.count }

-- ---- a walked list's blocks

module _ (bs : List Block) (d w : ℕ) where
  pub read_bad : (o : ℕ) → bad_body bs ≡ Some o → read_blocks bs d w ≡ refused 8 o
  read_bad o e = rw e

  pub read_short : bad_body bs ≡ None → min d w < count_of bs → read_blocks bs d w ≡ refused 9 0
  read_short e h = rw (e, lt-leb (length (posts_of bs)) (min d w) (omega (arith, right-count bs e)))

  pub read_whole : bad_body bs ≡ None → count_of bs ≤ d → count_of bs ≤ w → read_blocks bs d w ≡ done (posts_of bs)
  read_whole e h k = rw (e, le-leb (length (posts_of bs)) (min d w) (omega (arith, right-count bs e)))

pub reads_filled : (s : List ℕ) (p : Place) (ds ss ds' ss' : List ℕ) (r : ℕ) → Fillable s p (length ds) (length ss) → Filled s p ds ss ds' ss' r →
    Reads (read_blocks (blocks_at s p.at p.count) (length ds) (length ss)) ds ss ds' ss' (Ok r)
reads_filled s p ds ss ds' ss' r h f =
    let bs = blocks_at s p.at p.count in
    let n = right-count bs h.right in
    rw (read_whole bs (length ds) (length ss) h.right h.roomy h.wide) record {
      docids = gives-stored (docs (posts_of bs)) ds ds' r (omega (arith, map-length (λ (p : Post). p.doc) (posts_of bs), h.roomy)) f.docids;
      scored = gives-stored (scores (posts_of bs)) ss ss' r (omega (arith, map-length (λ (p : Post). p.score) (posts_of bs), h.wide)) f.scored;
    }

-- ---- the list of a term, as `find_list` found it

shown-list : (o : Outcome Listing) (p : Place) → placed o ≡ done p → (l : Listing) × (o ≡ done l) × (l.place ≡ p)
shown-list (done l) p e = (l, refl, (cc))
shown-list (refused n o) p e = let z : ◌≡◌ {A = ℕ} 0 1 = cc in absurd (omega arith)

shown-refused : (o : Outcome Listing) (n at : ℕ) → placed o ≡ refused n at → o ≡ refused n at
shown-refused (done l) n at e = let z : ◌≡◌ {A = ℕ} 0 1 = cc in absurd (omega arith)
shown-refused (refused m o) n at e = cc

module _ (t : ℕ) (s : List ℕ) where
  pub read_found : (p : Place) → placed (found t s) ≡ done p →
      Ready s p × ((d w : ℕ) → read_list t s d w ≡ read_blocks (blocks_at s p.at p.count) d w)
  unfolding read_list
  read_found p e =
      let f = shown-list (found t s) p e in
      let h = found_stands t s f.0 f.1 in
      (rw f.2 at h.ready, λ d w. rw (f.1, h.blocks, f.2))

  pub read-refused : (n at d w : ℕ) → placed (found t s) ≡ refused n at → read_list t s d w ≡ refused n at
  unfolding read_list
  read-refused n at d w e = rw (shown-refused (found t s) n at e)
