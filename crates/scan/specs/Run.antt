-- The contracts of the run over heads, of skipping them, and of an interval. Assumes nothing.
use Rattle.std.specs.Prelude.{ℕ, suc, ◌≤◌, ◌<◌, ◌≡◌, List, map, drop}
use Rattle.model.specs.Limits.{max_k}
use Rattle.model.specs.Post.{docs}
use Rattle.model.specs.Runs.{All, Asc}
use Rattle.rank.specs.Rank.{keeps, Ordered}
use Rattle.rank.specs.Match.{any_list, hits_of, within}
use Rattle.rank.specs.Keep.{kept_of, kept_on}
use Rattle.rank.specs.Run.{none, size, run_hits, run_left, skip_term}
use Rattle.rank.specs.declared.keep.Kept.{Kept}
use Rattle.scan.specs.Heads.{InBuffers, OwnParts, terms, skip_head}
use Rattle.scan.specs.declared.head.Head.{Head}
use Rattle.scan.specs.declared.run.After.{After}

-- the heads from the n-th on are at their lists' ends
abbrev pub Idle : (n : ℕ) → List Head → Type 0
Idle n heads = All (λ h. none ≤ h.doc) (drop n heads)

-- a run
pub record Ready (ds ss : List ℕ) (heads : List Head) (last k : ℕ) (t : Kept) : Type 0 where
  pub inside : All (InBuffers ds ss) heads
  pub parts : OwnParts 0 heads
  pub below : last < none
  pub room : t.n ≤ k
  pub least : 0 < k
  pub most : k ≤ max_k
  pub order : Ordered (kept_of t)

pub record Ran (ds ss : List ℕ) (heads : List Head) (last k : ℕ) (t : Kept) (r : After) : Type 0 where
  pub kept : kept_of r.kept ≡ keeps k (kept_of t) (run_hits any_list (size (terms ds ss heads)) last (terms ds ss heads))
  pub rows : r.kept ≡ kept_on t (kept_of r.kept)
  pub room : r.kept.n ≤ k
  pub order : Ordered (kept_of r.kept)
  pub inside : All (InBuffers ds ss) r.heads
  pub parts : OwnParts 0 r.heads
  pub moved : r.heads ≡ map (skip_head ds ss (suc last)) heads
  pub left : terms ds ss r.heads ≡ run_left (size (terms ds ss heads)) last (terms ds ss heads)

-- all heads at the first posting from a docid on
pub record AllSkipped (ds ss : List ℕ) (first : ℕ) (heads hs : List Head) : Type 0 where
  pub inside : All (InBuffers ds ss) hs
  pub parts : OwnParts 0 hs
  pub moved : hs ≡ map (skip_head ds ss first) heads
  pub same : terms ds ss hs ≡ map (skip_term first) (terms ds ss heads)

-- an interval
pub record Bounds (ds ss : List ℕ) (heads : List Head) (first last k : ℕ) (t : Kept) : Type 0 where
  pub inside : All (InBuffers ds ss) heads
  pub parts : OwnParts 0 heads
  pub rising : All (λ t. Asc 0 (docs t.posts)) (terms ds ss heads)
  pub from : first ≤ suc last
  pub below : last < none
  pub room : t.n ≤ k
  pub least : 0 < k
  pub most : k ≤ max_k
  pub order : Ordered (kept_of t)

-- the kept hits, with those of the interval; the lists past it
pub record Searched (ds ss : List ℕ) (heads : List Head) (first last k : ℕ) (t : Kept) (r : After) : Type 0 where
  pub kept : kept_of r.kept ≡ keeps k (kept_of t) (within first last (hits_of any_list (terms ds ss heads)))
  pub rows : r.kept ≡ kept_on t (kept_of r.kept)
  pub room : r.kept.n ≤ k
  pub order : Ordered (kept_of r.kept)
  pub inside : All (InBuffers ds ss) r.heads
  pub parts : OwnParts 0 r.heads
  pub moved : r.heads ≡ map (skip_head ds ss (suc last)) (map (skip_head ds ss first) heads)
  pub left : terms ds ss r.heads ≡ map (skip_term (suc last)) (terms ds ss heads)
