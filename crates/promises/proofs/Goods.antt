-- On a sound shelf the lists of a query are as pruning asks of them: their blocks rise up to the limit, at most 64 of them, each body is right, and
-- its postings keep to its summary. Assumes nothing.
use Prim.Native.Nat.{ℕ, ◌+◌, ◌-◌, ◌≤◌, ◌<◌, max}
use native.Mathlib.Omega.{arith}
use mathlib.Core.Path.{◌≡◌, ap, ◌∙◌}
use mathlib.Core.Bool.{true}
use mathlib.Core.List.{List, [], ◌∷◌, map}
use lib.ListN.{length, length-map}
use Rattle.model.specs.Limits.{max_docid, max_terms, per_list}
use Rattle.model.specs.Post.{Post, Rising, last_doc, top_score}
use Rattle.model.specs.Runs.{All, Bytes}
use Rattle.model.proofs.Lists.{All_map, All_both, All_image}
use Rattle.model.proofs.Posts.{rising-last, last_any}
use Rattle.block.specs.Summary.{right_sum}
use Rattle.block.specs.Body.{right_body, body_run}
use Rattle.block.proofs.Summaries.{top_above}
use Rattle.block.proofs.Contents.{run-all, right-body}
use Rattle.shelf.specs.Walk as shelf
use Rattle.shelf.specs.Walk.{blocks_at}
use Rattle.shelf.specs.Blocks.{reading_of, blocks_left}
use Rattle.lookup.specs.Gather.{term_list, term_blocks}
use Rattle.shelf.proofs.Readings.{start-rests}
use Rattle.shelf.proofs.Sounds as sounds
use Rattle.shelf.proofs.Sounds.{sound-walk, sound-good}
use Rattle.lookup.proofs.Stands.{Standing, walk_stands, term-has}
use Rattle.lookup.proofs.Tables.{blocks-length}
use Rattle.query.specs.Query.{Asked, Question}
use Rattle.query.proofs.Accepted.{accepted_in_range}
use Rattle.rank.proofs.Withins.{rising-above}
use Rattle.prune.specs.Cut.{Listing}
use Rattle.prune.specs.Prune.{terms_of, Right, Good, GoodList}
use Rattle.exhaustive.specs.Lists.{block_of, listing_of, term_on}
use Rattle.exhaustive.proofs.Chains.{sum_facts, left_low}
use Rattle.exhaustive.proofs.Sound.{lists-right}
use Rattle.promises.specs.Served.{Asks, lists_for}

-- ---- the postings of a right body keep to its summary

up_to_last : (n : ℕ) (ps : List Post) → Rising n ps → All (λ (p : Post). p.doc ≤ last_doc n ps) ps
up_to_last n [] r = tt
up_to_last n (p ∷ ps) r = (omega (arith, rising-last p.doc ps r.1), up_to_last p.doc ps r.1)

up_to_top : (m : ℕ) (ps : List Post) → All (λ (p : Post). p.score ≤ top_score m ps) ps
up_to_top m [] = tt
up_to_top m (p ∷ ps) = (omega (arith, top_above (max m p.score) ps), up_to_top (max m p.score) ps)

block-right : (prev : ℕ) (b : shelf.Block) → right_sum prev b.sum ≡ true → right_body b.sum b.body ≡ true → Bytes b.body → b.sum.greatest ≤ max_docid → Right max_docid prev (block_of b)
block-right prev b e w h low =
    let f = sum_facts prev b.sum e in
    let r = right-body b.sum b.body h f.some w in
    let ps = r.posts in
    let run : body_run b.sum b.body ≡ ps = run-all b.sum b.body ps r.taken r.reads in
    let some : 0 < length ps = omega (arith, r.whole.count, f.some) in
    let rise : Rising (b.sum.least - 1) ps = r.whole.rise (b.sum.least - 1) (omega (arith, f.above)) in
    let last : last_doc (b.sum.least - 1) ps ≡ b.sum.greatest = last_any (b.sum.least - 1) 0 ps some ∙ r.last in
    let docids : All (λ (p : Post). (b.sum.least ≤ p.doc) × (p.doc ≤ b.sum.greatest)) ps =
    All_both ps (λ p l u. (omega arith, omega (arith, last))) (rising-above (b.sum.least - 1) ps rise) (up_to_last (b.sum.least - 1) ps rise) in
    let scores : All (λ (p : Post). (1 ≤ p.score) × (p.score ≤ b.sum.top)) ps =
    All_both ps (λ p l u. (omega arith, omega (arith, r.top))) r.whole.scores (up_to_top 0 ps) in
    record {
      above = f.above;
      order = f.order;
      below = low;
      body = rw w;
      fits = rw (w, run) (All_both ps (λ p d c. record { from = d.0; upto = d.1; some = c.0; most = c.1 }) docids scores);
    }

-- ---- a list's blocks

low_blocks : (s : List ℕ) (l : shelf.Listing) → Bytes s → Standing s l → All (λ (b : shelf.Block). b.sum.greatest ≤ max_docid) l.blocks
unfolding blocks_at blocks_left
low_blocks s l h w =
    rw w.blocks
    (left_low s (reading_of l.place) h (start-rests s l.place w.ready))

blocks-good : (prev : ℕ) (bs : List shelf.Block) → sounds.Good prev bs → All (λ (b : shelf.Block). b.sum.greatest ≤ max_docid) bs → Good max_docid prev (map block_of bs)
blocks-good prev [] g low = tt
blocks-good prev (b ∷ bs) g low = (block-right prev b g.0 g.1 g.2 low.0, blocks-good b.sum.greatest bs g.3 low.1)

-- what is known of a list: good blocks, at most 64
pub record Known (l : shelf.Listing) : Type 0 where
  pub good : Good max_docid 0 (map block_of l.blocks)
  pub few : length l.blocks ≤ per_list

lists_known : (s : List ℕ) (floor : ℕ) (ls : List shelf.Listing) → Bytes s → sounds.Listed floor ls → All (Standing s) ls → All Known ls
lists_known s floor [] h g w = tt
lists_known s floor (l ∷ ls) h g w =
    let known : Known l = record {
      good = blocks-good 0 l.blocks g.1 (low_blocks s l h w.0);
      few = omega (arith, w.0.ready.few, ap length w.0.blocks, blocks-length s l.place.at l.place.count);
    } in
    (known, lists_known s (l.place.term + 1) ls h g.2 w.1)

-- ---- the lists of a query

module _ (q s : List ℕ) (x : Question) (ls : List shelf.Listing) (a : Asks q s x ls) where
  term_known : (t : ℕ) → Known (term_list t ls)
  term_known t =
      term-has Known (record { good = tt; few = omega arith }) t ls
      (lists_known s 0 ls a.shelf-bytes (sound-good s ls a.shelf-bytes a.sound) (walk_stands s ls (sound-walk s ls a.sound).0))

  pub good-lists : All (GoodList max_docid) (lists_for x ls)
  good-lists =
      All_image (listing_of ls) (GoodList max_docid) x.terms
      (All_map x.terms (λ (y : Asked) w. record { weighs = w.1; good = (term_known y.term).good }) (accepted_in_range q x a.query-bytes a.faultless).each)

  -- at most 8 lists, of at most 64 blocks each
  pub few-lists : length (lists_for x ls) ≤ max_terms
  few-lists = omega (arith, (accepted_in_range q x a.query-bytes a.faultless).few, length-map x.terms (listing_of ls))

  pub few-blocks : All (λ (l : Listing). length l.blocks ≤ per_list) (lists_for x ls)
  few-blocks =
      All_image (listing_of ls) (λ (l : Listing). length l.blocks ≤ per_list) x.terms
      (All_map x.terms (λ (y : Asked) w. omega (arith, (term_known y.term).few, length-map (term_blocks y.term ls) block_of)) (accepted_in_range q x a.query-bytes a.faultless).each)

  -- each with the postings that the shelf holds for its term
  pub terms-held : terms_of (lists_for x ls) ≡ map (term_on ls) x.terms
  terms-held = (lists-right ls (sound-walk s ls a.sound).1 x.terms).0
