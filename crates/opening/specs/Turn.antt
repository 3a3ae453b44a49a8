-- One interval opened, and the search over all of them. Assumes nothing.
use Rattle.std.specs.Prelude.{ℕ, suc, ◌≤◌, ◌<◌, ◌≡◌, List, map, get_or, Some}
use Rattle.std.proofs.Math.Option.{none}
use Rattle.model.specs.Limits.{max_docid, max_terms, max_k}
use Rattle.rank.specs.Rank.{keeps, Ordered}
use Rattle.rank.specs.Match.{Term, any_list, hits_of, within}
use Rattle.rank.specs.Keep.{kept_of, kept_on}
use Rattle.rank.specs.declared.keep.Kept.{Kept}
use Rattle.prune.specs.Cut.{Block}
use Rattle.prune.specs.Prune.{posted}
use Rattle.scan.specs.Heads.{skip_head}
use Rattle.scan.specs.declared.head.Head.{Head}
use Rattle.opening.specs.Table.{numbered, block_in}
use Rattle.opening.specs.Enter.{body_of, AllStand, told, fault_from, new_from, entered_all}
use Rattle.opening.specs.declared.turn.Turn.{Turn}

-- the lists of an interval that meets the blocks `mets`
abbrev pub term_met : (ℕ → Block) → (weights mets : List ℕ) → ℕ → Term
term_met block weights mets t = record { weight = get_or weights t 0; posts = posted (body_of block (get_or mets t 0)) }

-- what opening asks: the lists stand, in blocks that were right; the interval's docids; the keeper
pub record Openable (shelf los his tops counts bodies weights was : List ℕ) (heads : List Head) (ds ss : List ℕ) (first last k : ℕ) (kept : Kept) : Type 0 where
  pub stand : AllStand (block_in shelf los his tops counts bodies) weights ds ss was first heads
  pub right : fault_from (block_in shelf los his tops counts bodies) was max_terms 0 ≡ none
  pub from : first ≤ suc last
  pub below : last ≤ max_docid
  pub room : kept.n ≤ k
  pub least : 0 < k
  pub most : k ≤ max_k
  pub order : Ordered (kept_of kept)

-- "Opening checks the whole body of each block met.": the wrong one that is named, if any; where there is none, the interval's hits are handed to the keeper
pub record Opens (shelf los his tops counts bodies weights was mets : List ℕ) (heads : List Head) (ds ss ds' ss' : List ℕ) (first last k : ℕ) (kept : Kept) (r : Turn) : Type 0 where
  pub fresh : r.fresh ≡ new_from was mets max_terms 0
  pub wrong : told r.wrong ≡ fault_from (block_in shelf los his tops counts bodies) mets max_terms 0
  pub hits : told r.wrong ≡ none
      → kept_of r.kept ≡ keeps k (kept_of kept) (within first last (hits_of any_list (numbered (term_met (block_in shelf los his tops counts bodies) weights mets) max_terms 0)))
  pub rows : told r.wrong ≡ none → r.kept ≡ kept_on kept (kept_of r.kept)
  pub stopped : (at : ℕ) → r.wrong ≡ Some at → (r.kept ≡ kept) × (r.heads ≡ (entered_all shelf los his tops counts bodies weights was mets heads ds ss).heads)
  pub room : r.kept.n ≤ k
  pub order : Ordered (kept_of r.kept)
  pub stand : told r.wrong ≡ none → AllStand (block_in shelf los his tops counts bodies) weights ds' ss' mets (suc last) r.heads
  -- the lists entered; past the interval where it was opened
  pub docids : ds' ≡ (entered_all shelf los his tops counts bodies weights was mets heads ds ss).docids
  pub scored : ss' ≡ (entered_all shelf los his tops counts bodies weights was mets heads ds ss).scored
  pub moved : told r.wrong ≡ none
      → r.heads ≡ map (skip_head ds' ss' (suc last)) (map (skip_head ds' ss' first) (entered_all shelf los his tops counts bodies weights was mets heads ds ss).heads)
