-- A block loaded: its postings as far as they read stand in its list's part of the buffers, and the list's head at the first of them. Assumes nothing.
use Rattle.std.specs.Prelude.{ℕ, ◌+◌, ◌≤◌, ◌<◌, ◌≡◌, cond, List, [], ◌∷◌, length, Result, Ok, Err}
use Rattle.std.proofs.lemmas.List.Edits.{sets}
use Rattle.model.specs.Limits.{max_docid, per_block, max_terms}
use Rattle.model.specs.Post.{Post, docs, scores}
use Rattle.rank.specs.Run.{none}
use Rattle.block.specs.Body.{right_body, body_run}
use Rattle.block.specs.declared.summary.Summary.{Summary}
use Rattle.scan.specs.Heads.{roomy, part_of}
use Rattle.scan.specs.declared.head.Head.{Head}
use Rattle.scan.specs.declared.load.WrongBody.{WrongBody}

-- what a right summary says, and a list that has a part
pub record Loadable (m : Summary) (t : ℕ) (ds ss : List ℕ) : Type 0 where
  pub some : 0 < m.count
  pub most : m.count ≤ per_block
  pub order : m.least ≤ m.greatest
  pub below : m.greatest ≤ max_docid
  pub mine : t < max_terms
  pub docids : length ds ≡ roomy
  pub scored : length ss ≡ roomy

-- the head of list t at the first of some postings, which stand in its part
unfoldable pub head_of : (weight t : ℕ) → List Post → Head
head_of weight t [] = record { doc = none; score = 0; weight = weight; at = part_of t; end = part_of t }
head_of weight t (p ∷ ps) = record { doc = p.doc; score = p.score; weight = weight; at = part_of t + 1; end = part_of t + length (p ∷ ps) }

-- a wrong body is told apart from no other
abbrev pub wrong_body : WrongBody
wrong_body = record {}

pub record Loads (m : Summary) (body : List ℕ) (weight t : ℕ) (ds ss ds' ss' : List ℕ) (r : Result Head WrongBody) : Type 0 where
  pub answer : r ≡ cond (right_body m body) (Ok (head_of weight t (body_run m body))) (Err wrong_body)
  pub docids : ds' ≡ sets ds (part_of t) (docs (body_run m body))
  pub scored : ss' ≡ sets ss (part_of t) (scores (body_run m body))
