-- The private contracts of the edits' code on two runs. Assumes nothing.
use Rattle.std.specs.Prelude.{ℕ, ◌<◌, ◌≡◌, List, false, length, take}
use Rattle.model.specs.Post.{Post, postings, docs, scores, Rising}
use Rattle.model.specs.Runs.{has, Holds}
use Rattle.change.specs.Edits.{set_post, clear_post}

-- the first n postings of two runs
abbrev pub front : ℕ → List ℕ → List ℕ → List Post
front n ds ss = postings (take n ds) (take n ss)

-- a docid was taken out of them: those that stay are in front, and what lies past them is as it was
pub record Clears (d n : ℕ) (ds ss : List ℕ) (r : ℕ) (ds' ss' : List ℕ) : Type 0 where
  pub docids : Holds ds (docs (clear_post d (front n ds ss))) ds' r
  pub scored : Holds ss (scores (clear_post d (front n ds ss))) ss' r

-- there is room for one more, and they rise and do not hold docid d
pub record Insertable (d n : ℕ) (ds ss : List ℕ) : Type 0 where
  pub roomy : n < length ds
  pub wide : n < length ss
  pub rise : Rising 0 (front n ds ss)
  pub free : has d (docs (front n ds ss)) ≡ false

-- a posting was put in among them, and what lies past them is as it was
pub record Inserts (d w n : ℕ) (ds ss : List ℕ) (r : ℕ) (ds' ss' : List ℕ) : Type 0 where
  pub docids : Holds ds (docs (set_post d w (front n ds ss))) ds' r
  pub scored : Holds ss (scores (set_post d w (front n ds ss))) ss' r
