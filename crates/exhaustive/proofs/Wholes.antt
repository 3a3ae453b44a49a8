-- What the lists have in all: docids rise, in range, and what stands on the shelf comes after what stands in the buffers. Assumes nothing.
use Prim.Native.Nat.{ℕ, suc, ◌+◌, ◌≤◌, ◌<◌}
use mathlib.Core.Path.{◌≡◌, refl}
use mathlib.Core.List.{List, [], ◌∷◌, ◌++◌, map}
use native.Mathlib.Omega.{arith}
use lib.ListN.{length, length-append}
use lib.Dec.{ltb}
use borrow.Author.Tests.{ne_eqb, le-ltb}
use Rattle.model.specs.Limits.{max_docid}
use Rattle.model.specs.Post.{Post, docs, Rising}
use Rattle.model.specs.Runs.{All, has, Asc, Bytes}
use Rattle.model.proofs.Lists.{split, All_append, All_image}
use Rattle.block.specs.Body.{right_body, body_run}
use Rattle.block.proofs.Runs.{run-few, run-rises}
use Rattle.shelf.specs.Walk as shelf
use Rattle.shelf.specs.Blocks.{blocks_left}
use Rattle.rank.specs.Match.{Term, stored, score_of, holds}
use Rattle.rank.specs.Run.{drop_below, skip_term, size}
use Rattle.rank.proofs.Matches.{AllDocs}
use Rattle.rank.proofs.Hits.{Rises}
use Rattle.prune.specs.Prune.{posts_of}
use Rattle.exhaustive.specs.Lists.{block_of}
use Rattle.exhaustive.specs.Merge.{on_shelf, Chain, Behinds, wholes}
use Rattle.exhaustive.specs.declared.fill.Left.{Left}
use Rattle.exhaustive.proofs.Chains.{sum_facts, left_low}

-- ---- postings that come after others
module _ (d : ℕ) where
  has-front : (ps qs : List Post) → All (λ (p : Post). d < p.doc) qs → has d (docs (ps ++ qs)) ≡ has d (docs ps)
  has-front [] [] a = refl
  has-front [] (q ∷ qs) a = rw (ne_eqb d q.doc (omega arith)) (has-front [] qs a.1)
  has-front (p ∷ ps) qs a = rw (has-front ps qs a)

  stored-front : (ps qs : List Post) → All (λ (p : Post). d < p.doc) qs → stored (ps ++ qs) d ≡ stored ps d
  stored-front [] [] a = refl
  stored-front [] (q ∷ qs) a = rw (ne_eqb d q.doc (omega arith)) (stored-front [] qs a.1)
  stored-front (p ∷ ps) qs a = rw (stored-front ps qs a)

  below-front : (ps qs : List Post) → All (λ (p : Post). d < p.doc) qs → drop_below (suc d) (ps ++ qs) ≡ drop_below (suc d) ps ++ qs
  below-front [] [] a = refl
  below-front [] (q ∷ qs) a = rw (le-ltb q.doc (suc d) (omega arith))
  below-front (p ∷ ps) qs a = split (ltb p.doc (suc d)) (λ e. rw e (below-front ps qs a)) (λ e. rw e)

rising_less : (p g : ℕ) (ys : List Post) → p ≤ g → Rising g ys → Rising p ys
rising_less p g [] l r = tt
rising_less p g (y ∷ ys) l r = (omega arith, r.1)

rising-on : (p g : ℕ) (xs ys : List Post) → p ≤ g → Rising p xs → All (λ (x : Post). x.doc ≤ g) xs → Rising g ys → Rising p (xs ++ ys)
rising-on p g [] ys l r a q = rising_less p g ys l q
rising-on p g (x ∷ xs) ys l r a q = (r.0, rising-on x.doc g xs ys a.0 r.1 a.1 q)

pub rising_asc : (n : ℕ) (ps : List Post) → Rising n ps → Asc n (docs ps)
rising_asc n [] r = tt
rising_asc n (p ∷ ps) r = (r.0, rising_asc p.doc ps r.1)

upto-more : (a b : ℕ) (ps : List Post) → a ≤ b → All (λ (p : Post). p.doc ≤ a) ps → All (λ (p : Post). p.doc ≤ b) ps
upto-more a b [] l w = tt
upto-more a b (p ∷ ps) l w = (omega arith, upto-more a b ps l w.1)

pub past_less : (a b : ℕ) (ps : List Post) → a ≤ b → All (λ (p : Post). b < p.doc) ps → All (λ (p : Post). a < p.doc) ps
past_less a b [] l w = tt
past_less a b (p ∷ ps) l w = (omega arith, past_less a b ps l w.1)

-- ---- the blocks on the shelf
pub chain-rising : (prev : ℕ) (bs : List shelf.Block) → Chain prev bs → Rising prev (posts_of (map block_of bs))
chain-rising prev [] c = tt
chain-rising prev (b ∷ bs) c =
    let f = sum_facts prev b.sum c.0 in
    let more : Rising b.sum.greatest (posts_of (map block_of bs)) = chain-rising b.sum.greatest bs c.1 in
    split (right_body b.sum b.body)
    (λ e. rw e (rising-on prev b.sum.greatest (body_run b.sum b.body) (posts_of (map block_of bs)) (omega (arith, f.above, f.order)) (run-rises prev b.sum b.body f.above) (run-few b.sum b.body f.order).1 more))
    (λ e. rw e (rising_less prev b.sum.greatest (posts_of (map block_of bs)) (omega (arith, f.above, f.order)) more))

chain_low : (prev : ℕ) (bs : List shelf.Block) → Chain prev bs → All (λ (b : shelf.Block). b.sum.greatest ≤ max_docid) bs → All (λ (p : Post). p.doc ≤ max_docid) (posts_of (map block_of bs))
chain_low prev [] c a = tt
chain_low prev (b ∷ bs) c a =
    let f = sum_facts prev b.sum c.0 in
    let more = chain_low b.sum.greatest bs c.1 a.1 in
    split (right_body b.sum b.body)
    (λ e. rw e (All_append (λ (p : Post). p.doc ≤ max_docid) (body_run b.sum b.body) (posts_of (map block_of bs)) (upto-more b.sum.greatest max_docid (body_run b.sum b.body) a.0 (run-few b.sum b.body f.order).1) more))
    (λ e. rw e more)

module _ (s : List ℕ) where
  -- ---- all lists
  pub wholes-rise : (us : List Term) (ls : List Left) → Behinds s us ls → Rises 0 (wholes s us ls)
  wholes-rise [] ls w = tt
  wholes-rise (u ∷ us) [] w = tt
  wholes-rise (u ∷ us) (l ∷ ls) w =
      let b = w.0 in
      (rising_asc 0 (u.posts ++ posts_of (on_shelf s l.blocks)) (rising-on 0 l.top u.posts (posts_of (on_shelf s l.blocks)) (omega arith) b.rising b.upto (chain-rising l.top (blocks_left s l.blocks) b.chain)), wholes-rise us ls w.1)

  pub wholes_low : Bytes s → (us : List Term) (ls : List Left) → Behinds s us ls → AllDocs (λ d. d ≤ max_docid) (wholes s us ls)
  wholes_low h [] ls w = tt
  wholes_low h (u ∷ us) [] w = tt
  wholes_low h (u ∷ us) (l ∷ ls) w =
      let b = w.0 in
      let on = chain_low l.top (blocks_left s l.blocks) b.chain (left_low s l.blocks h b.rests) in
      let all = All_append (λ (p : Post). p.doc ≤ max_docid) u.posts (posts_of (on_shelf s l.blocks)) (upto-more l.top max_docid u.posts b.below b.upto) on in
      (All_image (λ (p : Post). p.doc) (λ d. d ≤ max_docid) (u.posts ++ posts_of (on_shelf s l.blocks)) all, wholes_low h us ls w.1)

  -- what is on the shelf lies past a docid
  abbrev pub Pasts : ℕ → List Left → Type 0
  Pasts d [] = Unit {0}
  Pasts d (l ∷ ls) = All (λ (p : Post). d < p.doc) (posts_of (on_shelf s l.blocks)) × Pasts d ls

  module _ (last : ℕ) where
    pub wholes-holds : (d : ℕ) (us : List Term) (ls : List Left) → d ≤ last → length us ≤ length ls → Pasts last ls → holds (wholes s us ls) d ≡ holds us d
    wholes-holds d [] ls l n w = refl
    wholes-holds d (u ∷ us) [] l n w = absurd (omega arith)
    wholes-holds d (u ∷ us) (x ∷ ls) l n w =
        cc (has-front d u.posts (posts_of (on_shelf s x.blocks)) (past_less d last (posts_of (on_shelf s x.blocks)) l w.0), wholes-holds d us ls l (omega arith) w.1)

    pub wholes-score : (d : ℕ) (us : List Term) (ls : List Left) → d ≤ last → length us ≤ length ls → Pasts last ls → score_of (wholes s us ls) d ≡ score_of us d
    wholes-score d [] ls l n w = refl
    wholes-score d (u ∷ us) [] l n w = absurd (omega arith)
    wholes-score d (u ∷ us) (x ∷ ls) l n w =
        cc (stored-front d u.posts (posts_of (on_shelf s x.blocks)) (past_less d last (posts_of (on_shelf s x.blocks)) l w.0), wholes-score d us ls l (omega arith) w.1)

    pub wholes_skip : (us : List Term) (ls : List Left) → length us ≤ length ls → Pasts last ls → map (skip_term (suc last)) (wholes s us ls) ≡ wholes s (map (skip_term (suc last)) us) ls
    wholes_skip [] ls n w = refl
    wholes_skip (u ∷ us) [] n w = absurd (omega arith)
    wholes_skip (u ∷ us) (x ∷ ls) n w = cc (below-front last u.posts (posts_of (on_shelf s x.blocks)) w.0, wholes_skip us ls (omega arith) w.1)

  -- ---- how much it is
  on_shelf_size : List Term → List Left → ℕ
  on_shelf_size [] ls = 0
  on_shelf_size (u ∷ us) [] = 0
  on_shelf_size (u ∷ us) (l ∷ ls) = length (posts_of (on_shelf s l.blocks)) + on_shelf_size us ls

  wholes-size : (us : List Term) (ls : List Left) → length us ≤ length ls → size (wholes s us ls) ≡ size us + on_shelf_size us ls
  unfolding on_shelf_size
  wholes-size [] ls n = refl
  wholes-size (u ∷ us) [] n = absurd (omega arith)
  wholes-size (u ∷ us) (l ∷ ls) n = omega (arith, length-append u.posts (posts_of (on_shelf s l.blocks)), wholes-size us ls (omega arith))

  size_same : (e : ℕ) (us : List Term) (ls : List Left) → on_shelf_size (map (skip_term e) us) ls ≡ on_shelf_size us ls
  unfolding on_shelf_size
  size_same e [] ls = refl
  size_same e (u ∷ us) [] = refl
  size_same e (u ∷ us) (l ∷ ls) = rw (size_same e us ls)

  pub wholes_less : (e : ℕ) (us : List Term) (ls : List Left) → length us ≤ length ls → length (map (skip_term e) us) ≤ length ls → size (map (skip_term e) us) < size us
      → size (wholes s (map (skip_term e) us) ls) < size (wholes s us ls)
  wholes_less e us ls n m l = omega (arith, wholes-size us ls n, wholes-size (map (skip_term e) us) ls m, size_same e us ls)
