-- The merge of a query's lists: what each list still has, in the buffers and on the shelf, and the contracts of the code that brings it on.
-- Assumes nothing.
use Rattle.std.specs.Prelude.{ℕ, suc, ◌+◌, ◌-◌, ◌*◌, ◌^◌, ◌≤◌, ◌<◌, min, ◌≡◌, true, false, cond, List, [], ◌∷◌, ◌++◌, map, length, take, drop, eqb, ltb, Result, Ok, Err}
use Rattle.std.specs.Prelude as prelude
use Rattle.std.proofs.Math.Option.{Option, none, some}
use Rattle.model.specs.Limits.{max_docid, max_terms, max_k}
use Rattle.model.specs.Outcome.{done}
use Rattle.model.specs.Post.{Post, Rising}
use Rattle.model.specs.Runs.{All}
use Rattle.block.specs.Body.{right_body}
use Rattle.block.specs.Summary.{right_sum}
use Rattle.block.specs.declared.summary.Summary.{Summary}
use Rattle.shelf.specs.Walk as shelf
use Rattle.shelf.specs.Blocks.{blocks_left, Rests}
use Rattle.shelf.specs.declared.blocks.Reading.{Reading}
use Rattle.rank.specs.Keep.{kept_of, keeper}
use Rattle.rank.specs.Match.{Term, any_list}
use Rattle.rank.specs.Run as run
use Rattle.prune.specs.Cut.{Block, Listing}
use Rattle.prune.specs.Prune.{posts_of, fault_in, fault_all, earlier, exhaustive}
use Rattle.scan.specs.Heads.{part_of, InBuffers, OwnPart, OwnParts, term_of, terms}
use Rattle.scan.specs.declared.head.Head.{Head}
use Rattle.exhaustive.specs.Lists.{block_of}
use Rattle.exhaustive.specs.declared.fill.Left.{Left}
use Rattle.exhaustive.specs.declared.fill.Stock.{Stock}
use Rattle.rank.specs.declared.keep.Kept.{Kept}
use Rattle.scan.specs.declared.load.WrongBody.{WrongBody}

-- the blocks of a list that begins at a place and has `count` blocks; a term without a list has none
abbrev pub reading_at : (at count : ℕ) → Reading
reading_at at count = cond (eqb count 0) (record { sum = 0; body = 0; left = 0 }) (record { sum = at + 8; body = at + 8 + 12 * count; left = count })

-- the blocks that a list still has on the shelf
abbrev pub on_shelf : List ℕ → Reading → List Block
on_shelf s r = map block_of (blocks_left s r)

-- each summary is right after the block before it
abbrev pub Chain : ℕ → List shelf.Block → Type 0
Chain prev [] = Unit {0}
Chain prev (b ∷ bs) = (right_sum prev b.sum ≡ true) × Chain b.sum.greatest bs

-- all that a list still has: what its head has in the buffers, then the postings of its blocks on the shelf
abbrev pub whole : List ℕ → Term → Left → Term
whole s u l = record { weight = u.weight; posts = u.posts ++ posts_of (on_shelf s l.blocks) }

-- what stands in the buffers rises up to the greatest docid of its block, and the blocks on the shelf come after it
pub record Behind (s : List ℕ) (u : Term) (l : Left) : Type 0 where
  pub rising : Rising 0 u.posts
  pub upto : All (λ (p : Post). p.doc ≤ l.top) u.posts
  pub below : l.top ≤ max_docid
  pub rests : Rests s l.blocks
  pub chain : Chain l.top (blocks_left s l.blocks)

-- a list and its part of the buffers
pub record Line (s ds ss : List ℕ) (t : ℕ) (h : Head) (l : Left) : Type 0 where
  pub mine : t < max_terms
  pub inside : InBuffers ds ss h
  pub own : OwnPart t h
  pub behind : Behind s (term_of ds ss h) l

-- the list stands at a posting, or it has nothing left
abbrev pub Settled : List ℕ → Term → Left → Type 0
Settled s u l = (u.posts ≡ []) → blocks_left s l.blocks ≡ []

-- every list with its part elsewhere has in the buffers what it had
abbrev pub OthersStay : (t : ℕ) (ds ss ds' ss' : List ℕ) → Type 0
OthersStay t ds ss ds' ss' = (u : ℕ) (g : Head) → OwnPart u g → (u ≡ t → ⊥) → (term_of ds' ss' g ≡ term_of ds ss g) × (InBuffers ds ss g → InBuffers ds' ss' g)

-- the list stands, or has nothing left; it has what it had, and no wrong body was met
pub record Refilled (s ds ss : List ℕ) (t : ℕ) (h : Head) (l : Left) (ds' ss' : List ℕ) (h' : Head) (l' : Left) : Type 0 where
  pub line : Line s ds' ss' t h' l'
  pub same : whole s (term_of ds' ss' h') l' ≡ whole s (term_of ds ss h) l
  pub fault : fault_in (on_shelf s l'.blocks) ≡ fault_in (on_shelf s l.blocks)
  pub settled : Settled s (term_of ds' ss' h') l'
  pub others : OthersStay t ds ss ds' ss'

abbrev pub Refills : (s ds ss : List ℕ) (t : ℕ) (h : Head) (l : Left) (ds' ss' : List ℕ) → Result (Head × Left) WrongBody → Type 0
Refills s ds ss t h l ds' ss' (Ok x) = Refilled s ds ss t h l ds' ss' x.0 x.1
Refills s ds ss t h l ds' ss' (Err e) = fault_in (on_shelf s l.blocks) ≡ none → ⊥

-- ---- all lists of a query, list by list: what their heads have, and what is left of them on the shelf

abbrev pub wholes : List ℕ → List Term → List Left → List Term
wholes s [] ls = []
wholes s (u ∷ us) [] = []
wholes s (u ∷ us) (l ∷ ls) = whole s u l ∷ wholes s us ls

-- the first wrong body on the shelf that a list still has to read
abbrev pub fault_left : List ℕ → List Left → Option ℕ
fault_left s [] = none
fault_left s (l ∷ ls) = earlier (fault_in (on_shelf s l.blocks)) (fault_left s ls)

abbrev pub Behinds : List ℕ → List Term → List Left → Type 0
Behinds s [] ls = Unit {0}
Behinds s (u ∷ us) [] = Unit {0}
Behinds s (u ∷ us) (l ∷ ls) = Behind s u l × Behinds s us ls

abbrev pub AllSettled : List ℕ → List Term → List Left → Type 0
AllSettled s [] ls = Unit {0}
AllSettled s (u ∷ us) [] = Unit {0}
AllSettled s (u ∷ us) (l ∷ ls) = Settled s u l × AllSettled s us ls

pub record Lines (s ds ss : List ℕ) (hs : List Head) (ls : List Left) : Type 0 where
  pub heads : length hs ≡ max_terms
  pub lefts : length ls ≡ max_terms
  pub inside : All (InBuffers ds ss) hs
  pub parts : OwnParts 0 hs
  pub behind : Behinds s (terms ds ss hs) ls

-- each list stands or has nothing left; all have what they had, and no wrong body was met
pub record FilledUp (s ds ss : List ℕ) (hs : List Head) (ls : List Left) (ds' ss' : List ℕ) (hs' : List Head) (ls' : List Left) : Type 0 where
  pub lines : Lines s ds' ss' hs' ls'
  pub same : wholes s (terms ds' ss' hs') ls' ≡ wholes s (terms ds ss hs) ls
  pub fault : fault_left s ls' ≡ fault_left s ls
  pub settled : AllSettled s (terms ds' ss' hs') ls'

abbrev pub Fills : (s ds ss : List ℕ) (hs : List Head) (ls : List Left) (ds' ss' : List ℕ) → Result Stock WrongBody → Type 0
Fills s ds ss hs ls ds' ss' (Ok r) = FilledUp s ds ss hs ls ds' ss' r.heads r.lefts
Fills s ds ss hs ls ds' ss' (Err e) = fault_left s ls ≡ none → ⊥

-- up to where a run can go: the least greatest docid among the blocks of the lists that stand
abbrev pub nearer : Head → Left → ℕ → ℕ
nearer h l last = cond (ltb h.doc run.none) (min last l.top) last

abbrev pub horizon_of : List Head → List Left → ℕ
horizon_of [] ls = run.none
horizon_of (h ∷ hs) [] = run.none
horizon_of (h ∷ hs) (l ∷ ls) = nearer h l (horizon_of hs ls)

-- ---- the merge of the lists of a query, from where each list begins, its block count and its weight

-- before the first block of list t: nothing of it stands in the buffers
abbrev pub start_head : (t weight : ℕ) → Head
start_head t w = record { doc = run.none; score = 0; weight = w; at = part_of t; end = part_of t }

abbrev pub start_heads : ℕ → List ℕ → List Head
start_heads t [] = []
start_heads t (w ∷ ws) = start_head t w ∷ start_heads (suc t) ws

abbrev pub start_left : (at count : ℕ) → Left
start_left at count = record { blocks = reading_at at count; top = 0 }

abbrev pub start_lefts : (ats counts : List ℕ) → List Left
start_lefts [] cs = []
start_lefts (a ∷ as₀) [] = []
start_lefts (a ∷ as₀) (c ∷ cs) = start_left a c ∷ start_lefts as₀ cs

-- each list's summaries end at a place that there is
abbrev pub Addressed : (ats counts : List ℕ) → Type 0
Addressed [] cs = Unit {0}
Addressed (a ∷ as₀) [] = Unit {0}
Addressed (a ∷ as₀) (c ∷ cs) = (0 < c → a + 8 + 12 * c < 2 ^ 64) × Addressed as₀ cs

pub record Opens (ats counts weights : List ℕ) (r : Stock) : Type 0 where
  pub heads : r.heads ≡ start_heads 0 weights
  pub lefts : r.lefts ≡ start_lefts ats counts

-- each list was walked, or has no blocks
abbrev pub Walked : List ℕ → (at count : ℕ) → Type 0
Walked s at count = Rests s (reading_at at count) × Chain 0 (blocks_left s (reading_at at count))

abbrev pub AllWalked : List ℕ → (ats counts : List ℕ) → Type 0
AllWalked s [] cs = Unit {0}
AllWalked s (a ∷ as₀) [] = Unit {0}
AllWalked s (a ∷ as₀) (c ∷ cs) = Walked s a c × AllWalked s as₀ cs

-- the lists as a search sees them
abbrev pub lists_from : List ℕ → (weights ats counts : List ℕ) → List Listing
lists_from s [] as₀ cs = []
lists_from s (w ∷ ws) [] cs = []
lists_from s (w ∷ ws) (a ∷ as₀) [] = []
lists_from s (w ∷ ws) (a ∷ as₀) (c ∷ cs) = record { weight = w; blocks = on_shelf s (reading_at a c) } ∷ lists_from s ws as₀ cs

pub record Mergeable (s ats counts : List ℕ) (k : ℕ) : Type 0 where
  pub walked : AllWalked s ats counts
  pub addressed : Addressed ats counts
  pub least : 0 < k
  pub most : k ≤ max_k

-- no body is wrong, and these are the k best
pub record Best (s ats counts weights : List ℕ) (k : ℕ) (kept : Kept) : Type 0 where
  pub ranked : exhaustive any_list k (lists_from s weights ats counts) ≡ done (kept_of kept)
  pub few : kept.n ≤ k
  pub whole : kept ≡ keeper (kept_of kept)

-- the k best; or some body is wrong
abbrev pub Merges : (s ats counts weights : List ℕ) (k : ℕ) → Result Kept WrongBody → Type 0
Merges s ats counts weights k (Ok kept) = Best s ats counts weights k kept
Merges s ats counts weights k (Err e) = fault_all (lists_from s weights ats counts) ≡ none → ⊥

-- ---- the first wrong body in byte order

abbrev pub wrong_of : prelude.Option ℕ → Option ℕ
wrong_of (prelude.Some o) = some o
wrong_of prelude.None = none

-- a block's body, which stands in the shelf from `start` to `end`, if it is wrong: "its tag"
abbrev pub wrong_here : List ℕ → Summary → (start end : ℕ) → Option ℕ
wrong_here s m start end = cond (right_body m (take (end - start) (drop start s))) none (some (start - 3))
