-- The blocks that were gathered from lists that were walked: the search over them asks no more, and its lists are those on the shelf. Assumes nothing.
use Prim.Native.Nat.{ℕ, zero, suc, ◌+◌, ◌-◌, ◌≤◌, ◌<◌}
use mathlib.Core.Path.{◌≡◌, refl, sym, ap, ◌∙◌}
use mathlib.Core.Bool.{false}
use mathlib.Core.List.{List, [], ◌∷◌, ◌++◌, map, append-nil}
use native.Mathlib.Omega.{arith}
use lib.Dec.{ltb}
use lib.ListN.{length, get_or, drop, replicate, length-map, length-append, length-drop}
use borrow.Author.Tests.{ltb-true, ltb-false}
use Rattle.model.specs.Limits.{max_docid, max_terms, per_list}
use Rattle.model.specs.Runs.{All, Holds, Bytes}
use Rattle.model.proofs.Lists.{split, All_at, All_map, All_image}
use Rattle.block.specs.Body.{is_strip}
use Rattle.shelf.specs.Walk as shelf
use Rattle.shelf.specs.Walk.{blocks_at}
use Rattle.shelf.specs.Blocks.{blocks_left}
use Rattle.lookup.specs.Table.{least, greatest, top, count, tag_at, max_blocks, found_lists, flat, ends_from, Gathered}
use Rattle.lookup.specs.declared.gather.Blocks.{Blocks}
use Rattle.lookup.proofs.Tables.{blocks-length}
use Rattle.prune.specs.Cut.{Block, Listing, block_count}
use Rattle.exhaustive.specs.Lists.{block_of}
use Rattle.exhaustive.specs.Merge as exhaustive
use Rattle.exhaustive.specs.Merge.{on_shelf, reading_at, lists_from}
use Rattle.exhaustive.proofs.Wrongs.{walked_at}
use Rattle.opening.specs.Table.{gap, numbered, from_of, list_in, lists_in, body_in, block_in, Ends}
use Rattle.opening.specs.Enter.{Loadable}
use Rattle.intervals.specs.Blocks.{Walked}
use Rattle.opening.proofs.Numbers.{numbered-length, numbered_snoc, numbered_is, numbered-same}
use Rattle.pruned.specs.Pruned.{Searchable}
use Rattle.pruned.proofs.Parts.{numbered-at, flat-all, flat-few, blocks_counted, part-size, part-upto, part-blocks}
use Rattle.pruned.proofs.Rows.{Bodied, Fit, left_is, list-fit, list-rises}

-- ---- one block out of the runs

abbrev no_block : shelf.Block
no_block = record { at = 0; sum = record { least = 0; greatest = 0; top = 0; count = 0; strip = false }; body_at = 0; body = [] }

held_at : (f : shelf.Block → ℕ) (bs : List shelf.Block) (zs : List ℕ) (i : ℕ) → i < length bs → get_or (map f bs ++ zs) i 0 ≡ f (get_or bs i no_block)
held_at f [] zs i l = absurd (omega arith)
held_at f (b ∷ bs) zs zero l = refl
held_at f (b ∷ bs) zs (suc i) l = held_at f bs zs i (omega arith)

row_block : (s : List ℕ) (b : shelf.Block) (lo hi tall n at : ℕ) → lo ≡ least b → hi ≡ greatest b → tall ≡ top b → n ≡ count b → at ≡ tag_at b → Bodied s b
    → ◌≡◌ {A = Block} (record { least = lo; greatest = hi; top = tall; body = body_in s (record { least = lo; greatest = hi; top = tall; count = n; strip = is_strip (drop at s) }) at }) (block_of b)
row_block s b lo hi tall n at l g t c a h = rw (l, g, t, c, a, h.body, ← h.layout)

-- ---- the lists that were found, by their numbers

abbrev found_at : (s ats sizes : List ℕ) → ℕ → List shelf.Block
found_at s ats sizes t = blocks_at s (get_or ats t 0) (get_or sizes t 0)

lists_are : (s ats sizes : List ℕ) (n : ℕ) → found_lists s ats sizes n ≡ numbered (found_at s ats sizes) n 0
lists_are s ats sizes zero = refl
lists_are s ats sizes (suc n) =
    let e : 0 + n ≡ n = omega arith in
    ap {B = List (List shelf.Block)} (λ x. x ++ (found_at s ats sizes n ∷ [])) (lists_are s ats sizes n) ∙ sym (rw e at (numbered_snoc (found_at s ats sizes) n 0))

abbrev searched_at : (s ws ats sizes : List ℕ) → ℕ → Listing
searched_at s ws ats sizes t = record { weight = get_or ws t 0; blocks = on_shelf s (reading_at (get_or ats t 0) (get_or sizes t 0)) }

from_at : (s ws as₀ cs : List ℕ) (z : Listing) (t : ℕ) → t < length ws → length ws ≡ length as₀ → length ws ≡ length cs → get_or (lists_from s ws as₀ cs) t z ≡ searched_at s ws as₀ cs t
from_at s [] as₀ cs z t l a c = absurd (omega arith)
from_at s (w ∷ ws) [] cs z t l a c = absurd (omega arith)
from_at s (w ∷ ws) (x ∷ as₀) [] z t l a c = absurd (omega arith)
from_at s (w ∷ ws) (x ∷ as₀) (n ∷ cs) z zero l a c = refl
from_at s (w ∷ ws) (x ∷ as₀) (n ∷ cs) z (suc t) l a c = from_at s ws as₀ cs z t (omega arith) (omega arith) (omega arith)

from-long : (s ws as₀ cs : List ℕ) → length ws ≡ length as₀ → length ws ≡ length cs → length (lists_from s ws as₀ cs) ≡ length ws
from-long s [] as₀ cs a c = refl
from-long s (w ∷ ws) [] cs a c = absurd (omega arith)
from-long s (w ∷ ws) (x ∷ as₀) [] a c = absurd (omega arith)
from-long s (w ∷ ws) (x ∷ as₀) (n ∷ cs) a c = ap suc (from-long s ws as₀ cs (omega arith) (omega arith))

from_are : (s ws as₀ cs : List ℕ) → length ws ≡ length as₀ → length ws ≡ length cs → lists_from s ws as₀ cs ≡ numbered (searched_at s ws as₀ cs) (length ws) 0
from_are s ws as₀ cs a c =
    let n = from-long s ws as₀ cs a c in
    let z : Listing = record { weight = 0; blocks = [] } in
    rw n at (numbered_is z (searched_at s ws as₀ cs) (lists_from s ws as₀ cs) 0 (λ t l. from_at s ws as₀ cs z t (omega arith) a c ∙ ap (searched_at s ws as₀ cs) (omega arith)))

-- ---- the blocks that were gathered

-- lists that were walked, found in the shelf at `ats` with `sizes` blocks, and their blocks in the runs
pub record Tabled (s ats sizes : List ℕ) (k : ℕ) (r : Blocks) : Type 0 where
  pub bytes : Bytes s
  pub ok : Searchable s ats sizes k
  pub laid : Gathered (found_lists s ats sizes max_terms) r
  pub places : length ats ≡ max_terms
  pub counted : length sizes ≡ max_terms

module _ (s ats sizes : List ℕ) (k : ℕ) (r : Blocks) (g : Tabled s ats sizes k r) where
  abbrev L : ℕ → List shelf.Block
  L = found_at s ats sizes

  abbrev all : List shelf.Block
  all = flat (numbered L max_terms 0)

  laid : Gathered (numbered L max_terms 0) r
  laid = rw (lists_are s ats sizes max_terms) at g.laid

  walked : (t : ℕ) → t < max_terms → exhaustive.Walked s (get_or ats t 0) (get_or sizes t 0)
  walked t l = walked_at s t ats sizes (omega (arith, g.places)) (omega (arith, g.counted)) g.ok.walked.walked

  list-few : (t : ℕ) → t < max_terms → length (L t) ≤ per_list
  list-few t l =
      let n = get_or sizes t 0 in
      let e = blocks-length s (get_or ats t 0) n in
      split (ltb 0 n) (λ z. omega (arith, e, (g.ok.ready.ready t l (ltb-true _ _ z)).1.few)) (λ z. omega (arith, e, ltb-false 0 n z))

  blocks-fit : All (Fit s) all
  blocks-fit = flat-all (Fit s) L max_terms 0 (λ t l. list-fit s g.bytes (get_or ats t 0) (get_or sizes t 0) (walked t l))

  -- the runs hold a number of each block
  count-is : r.n ≡ length all
  count-is = laid.los.count ∙ length-map all least

  blocks-few : length all ≤ max_blocks
  blocks-few = omega (arith, flat-few L max_terms 0 list-few)

  run_long : (f : shelf.Block → ℕ) (run : List ℕ) → Holds (replicate max_blocks 0) (map f all) run r.n → length run ≡ max_blocks
  run_long f run h =
      omega (arith, ap length h.whole, length-append (map f all) (drop r.n (replicate max_blocks 0)), length-map all f, length-drop r.n (replicate {A = ℕ} max_blocks 0), h.count, blocks-few)

  los-long : length r.los ≡ max_blocks
  los-long = run_long least r.los laid.los

  his-long : length r.his ≡ max_blocks
  his-long = run_long greatest r.his laid.his

  tops-long : length r.tops ≡ max_blocks
  tops-long = run_long top r.tops laid.tops

  pub counts-long : length r.counts ≡ max_blocks
  counts-long = run_long count r.counts laid.counts

  pub bodies-long : length r.bodies ≡ max_blocks
  bodies-long = run_long tag_at r.bodies laid.bodies

  row_is : (f : shelf.Block → ℕ) (run : List ℕ) → Holds (replicate max_blocks 0) (map f all) run r.n → (i : ℕ) → i < length all → get_or run i 0 ≡ f (get_or all i no_block)
  row_is f run h i l = rw h.whole (held_at f all (drop r.n (replicate max_blocks 0)) i l)

  module _ (i : ℕ) (l : i < length all) where
    here : Fit s (get_or all i no_block)
    here = All_at (Fit s) all no_block i blocks-fit l

    block-is : block_in s r.los r.his r.tops r.counts r.bodies i ≡ block_of (get_or all i no_block)
    block-is =
        row_block s (get_or all i no_block) _ _ _ _ _ (row_is least r.los laid.los i l) (row_is greatest r.his laid.his i l) (row_is top r.tops laid.tops i l)
        (row_is count r.counts laid.counts i l) (row_is tag_at r.bodies laid.bodies i l) here.bodied

    block_loads : Loadable s r.los r.his r.tops r.counts r.bodies i
    block_loads = record {
      least_in = omega (arith, blocks-few, los-long);
      greatest_in = omega (arith, blocks-few, his-long);
      top_in = omega (arith, blocks-few, tops-long);
      count-in = omega (arith, blocks-few, counts-long);
      body-in = omega (arith, blocks-few, bodies-long);
      above = rw (row_is least r.los laid.los i l) here.facts.above;
      order = rw (row_is least r.los laid.los i l, row_is greatest r.his laid.his i l) here.facts.order;
      below = rw (row_is greatest r.his laid.his i l) here.below;
      some = rw (row_is count r.counts laid.counts i l) here.facts.some;
      most = rw (row_is count r.counts laid.counts i l) here.facts.most;
      whole = rw (row_is tag_at r.bodies laid.bodies i l) here.bodied.whole;
    }

  -- ---- list t

  abbrev B : ℕ → Block
  B = block_in s r.los r.his r.tops r.counts r.bodies

  ends_are : r.ends ≡ ends_from 0 (numbered L max_terms 0)
  ends_are = laid.ends.whole ∙ append-nil (ends_from 0 (numbered L max_terms 0))

  ends-long : length r.ends ≡ max_terms
  ends-long = ap length ends_are

  from_is : (ends : List ℕ) (t : ℕ) → from_of ends t ≡ get_or (0 ∷ ends) t 0
  from_is ends zero = refl
  from_is ends (suc t) = refl

  module _ (t : ℕ) (l : t < max_terms) where
    in_lists : t < length (numbered L max_terms 0)
    in_lists = omega (arith, numbered-length L max_terms 0)

    list-is : get_or (numbered L max_terms 0) t [] ≡ L t
    list-is = let e : 0 + t ≡ t = omega arith in rw e at (numbered-at [] L max_terms 0 t l)

    end_is : get_or r.ends t 0 ≡ from_of r.ends t + length (L t)
    end_is = rw (from_is r.ends t, ends_are) (rw list-is at (part-size 0 (numbered L max_terms 0) t in_lists))

    end-upto : get_or r.ends t 0 ≤ length all
    end-upto = rw ends_are (omega (arith, part-upto 0 (numbered L max_terms 0) t in_lists))

    blocks_are : numbered B (get_or r.ends t 0 - from_of r.ends t) (from_of r.ends t) ≡ map block_of (L t)
    blocks_are =
        let size : get_or r.ends t 0 - from_of r.ends t ≡ length (L t) = omega (arith, end_is) in
        let first : from_of r.ends t ≡ get_or (0 ∷ ends_from 0 (numbered L max_terms 0)) t 0 = from_is r.ends t ∙ ap {B = ℕ} (λ x. get_or (0 ∷ x) t 0) ends_are in
        rw (size, first)
        (rw list-is at (part-blocks block_of no_block B 0 (numbered L max_terms 0) (λ i b. let e : 0 + i ≡ i = omega arith in rw e (block-is i b)) t in_lists))

    list-ends : Ends B r.ends gap t
    list-ends = record {
      order = omega (arith, end_is);
      most = omega (arith, end_is, list-few t l);
      upto = omega (arith, end-upto, blocks-few);
      rises = rw blocks_are (list-rises s g.bytes (get_or ats t 0) (get_or sizes t 0) (walked t l));
      below = rw blocks_are
          (All_image block_of (λ (b : Block). b.greatest ≤ max_docid) (L t)
          (All_map (L t) (λ b f. f.below) (list-fit s g.bytes (get_or ats t 0) (get_or sizes t 0) (walked t l))));
    }

    shelf-blocks : numbered B (get_or r.ends t 0 - from_of r.ends t) (from_of r.ends t) ≡ on_shelf s (reading_at (get_or ats t 0) (get_or sizes t 0))
    shelf-blocks = blocks_are ∙ ap (map block_of) (sym (left_is s (get_or ats t 0) (get_or sizes t 0)))

  -- ---- all lists
  module _ (ws : List ℕ) (w : length ws ≡ max_terms) where
    pub tabled_walked : Walked s r.ends r.los r.his r.tops r.counts r.bodies ws k
    tabled_walked = record {
      lists = ends-long;
      weighted = w;
      short = omega (arith, los-long);
      seen = list-ends;
      least_in = λ t l. omega (arith, end-upto t l, blocks-few, los-long);
      greatest_in = λ t l. omega (arith, end-upto t l, blocks-few, his-long);
      top_in = λ t l. omega (arith, end-upto t l, blocks-few, tops-long);
      load = λ t i l b. block_loads i (omega (arith, end-upto t l));
      least = g.ok.walked.least;
      most = g.ok.walked.most;
    }

    shelf-lists : lists_from s ws ats sizes ≡ numbered (searched_at s ws ats sizes) max_terms 0
    shelf-lists = rw w at (from_are s ws ats sizes (w ∙ sym g.places) (w ∙ sym g.counted))

    pub tabled_lists : lists_in B r.ends ws ≡ lists_from s ws ats sizes
    tabled_lists =
        rw ends-long
        (numbered-same (list_in B r.ends ws) (searched_at s ws ats sizes) max_terms 0 (λ t a l. ap {B = Listing} (λ x. record { weight = get_or ws t 0; blocks = x }) (shelf-blocks t (omega arith))))
        ∙ sym shelf-lists

    pub tabled_count : r.n ≡ block_count (lists_from s ws ats sizes)
    tabled_count =
        count-is
        ∙ rw shelf-lists
        (blocks_counted L (searched_at s ws ats sizes) max_terms 0 (λ t. length-map (blocks_left s (reading_at (get_or ats t 0) (get_or sizes t 0))) block_of ∙ ap length (left_is s (get_or ats t 0) (get_or sizes t 0))))
