-- The contract of filling two runs with a list's postings. Assumes nothing.
use Rattle.std.specs.Prelude.{ℕ, ◌≤◌, ◌≡◌, List}
use Rattle.model.specs.Post.{docs, scores}
use Rattle.model.specs.Runs.{Stored}
use Rattle.shelf.specs.Walk.{blocks_at, posts_of}
use Rattle.shelf.specs.Check.{bad_body}
use Rattle.shelf.specs.Answers.{Ready}
use Rattle.shelf.specs.declared.walk.Place.{Place}
use Rattle.std.specs.Prelude.{None}
use Rattle.list.specs.Read.{count_of}

-- a walked list whose bodies are right, and room for its postings
pub record Fillable (s : List ℕ) (p : Place) (d w : ℕ) : Type 0 where
  pub ready : Ready s p
  pub right : bad_body (blocks_at s p.at p.count) ≡ None
  pub roomy : count_of (blocks_at s p.at p.count) ≤ d
  pub wide : count_of (blocks_at s p.at p.count) ≤ w

pub record Filled (s : List ℕ) (p : Place) (ds ss ds' ss' : List ℕ) (r : ℕ) : Type 0 where
  pub docids : Stored ds ds' 0 r (docs (posts_of (blocks_at s p.at p.count)))
  pub scored : Stored ss ss' 0 r (scores (posts_of (blocks_at s p.at p.count)))
