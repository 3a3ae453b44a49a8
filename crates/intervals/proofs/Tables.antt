-- The query's lists out of the runs of their blocks' numbers: their cuts, and their ceilings list by list. Assumes nothing.
use Prim.Native.Nat.{ℕ, zero, suc, ◌+◌, ◌-◌, ◌*◌, ◌≤◌, ◌<◌}
use mathlib.Core.Path.{◌≡◌, refl, sym, ap, ◌∙◌}
use mathlib.Core.List.{List, [], ◌∷◌, ◌++◌, map}
use native.Mathlib.Omega.{arith}
use native.Mathlib.Nat.{mul-le-mul}
use native.Mathlib.Numerals.{add-one}
use lib.ListN.{length, get_or, take, drop, replicate, length-drop, drop_of_length-le, replicate-append-replicate}
use lib.Seq.{drop-cons, length-take-le}
use Rattle.model.specs.Limits.{max_docid}
use Rattle.model.specs.Runs.{All, Asc}
use Rattle.model.proofs.Lists.{split, All_append}
use Rattle.prune.specs.Cut.{Block, Listing, meets, top_at, ceiling_at, cuts, add_cuts}
use Rattle.prune.specs.Gather.{part, flat_edges, Fine, blocks_of, Summaries, raise}
use Rattle.prune.proofs.Books.{raise-list}
use Rattle.prune.proofs.Listings.{leasts, greatests, blocks-of}
use Rattle.prune.proofs.Wholes.{Spells, flat-cuts}
use Rattle.opening.specs.Table.{numbered, from_of, list_in, lists_in, sum_block, Ends}
use Rattle.intervals.specs.Book.{ceilings_in, Raisable}
use Rattle.opening.proofs.Numbers.{numbered_snoc, numbered-all}

-- a run's part holds what the blocks have there
pub part-is : (g : Block → ℕ) (B : ℕ → Block) (xs : List ℕ) → ((i : ℕ) → g (B i) ≡ get_or xs i 0) → (n f : ℕ) → f + n ≤ length xs → take n (drop f xs) ≡ map g (numbered B n f)
part-is g B xs h zero f l = refl
part-is g B xs h (suc n) f l =
    let w : f < length xs = omega arith in
    rw (drop-cons xs f 0 w) (ap {B = List ℕ} (λ t. t ∷ take n (drop (suc f) xs)) (sym (h f)) ∙ ap {B = List ℕ} (λ t. g (B f) ∷ t) (part-is g B xs h n (suc f) (omega arith)))

-- the lists of a table, from list t on
module _ (B : ℕ → Block) (los his ends : List ℕ) (lo : (i : ℕ) → (B i).least ≡ get_or los i 0) (hi : (i : ℕ) → (B i).greatest ≡ get_or his i 0)
    (in_los : (t : ℕ) → t < length ends → get_or ends t 0 ≤ length los) (in_his : (t : ℕ) → t < length ends → get_or ends t 0 ≤ length his)
    (seen : (t : ℕ) → t < length ends → Ends B ends (length los) t) where
  least-part : (t : ℕ) → t < length ends → part (from_of ends t) (get_or ends t 0) los ≡ leasts (numbered B (get_or ends t 0 - from_of ends t) (from_of ends t))
  least-part t l = part-is (λ (b : Block). b.least) B los lo (get_or ends t 0 - from_of ends t) (from_of ends t) (omega (arith, (seen t l).order, in_los t l))

  greatest-part : (t : ℕ) → t < length ends → part (from_of ends t) (get_or ends t 0) his ≡ greatests (numbered B (get_or ends t 0 - from_of ends t) (from_of ends t))
  greatest-part t l = part-is (λ (b : Block). b.greatest) B his hi (get_or ends t 0 - from_of ends t) (from_of ends t) (omega (arith, (seen t l).order, in_his t l))

  fine_from : (n t : ℕ) → t + n ≡ length ends → Fine max_docid (from_of ends t) (drop t ends) los his
  fine_from zero t e = rw (drop_of_length-le ends {i = t} (omega arith)) tt
  fine_from (suc n) t e =
      let l : t < length ends = omega arith in
      rw (drop-cons ends t 0 l) (
        (seen t l).order,
        in_los t l,
        in_his t l,
        (seen t l).most,
        rw (least-part t l, greatest-part t l) (blocks-of max_docid (numbered B (get_or ends t 0 - from_of ends t) (from_of ends t)) (seen t l).rises (seen t l).below),
        fine_from n (suc t) (omega arith),
      )

  pub table_fine : Fine max_docid 0 ends los his
  table_fine = fine_from (length ends) 0 (omega arith)

  spells_from : (ws : List ℕ) (n t : ℕ) → t + n ≡ length ends → Spells (from_of ends t) (drop t ends) los his (numbered (list_in B ends ws) n t)
  spells_from ws zero t e = rw (drop_of_length-le ends {i = t} (omega arith)) tt
  spells_from ws (suc n) t e =
      let l : t < length ends = omega arith in
      rw (drop-cons ends t 0 l) (least-part t l, greatest-part t l, spells_from ws n (suc t) (omega arith))

  -- the cuts that are gathered are those of the lists
  pub table-cuts : (ws : List ℕ) → add_cuts max_docid [] (flat_edges 0 ends los his) ≡ cuts max_docid (lists_in B ends ws)
  table-cuts ws = flat-cuts max_docid ends los his (lists_in B ends ws) (spells_from ws (length ends) 0 (omega arith))

-- ---- ceilings, list by list

-- the blocks of a part of the runs
pub blocks-numbered : (los his tops : List ℕ) (n f : ℕ) → f + n ≤ length los → f + n ≤ length his → f + n ≤ length tops
    → blocks_of (take n (drop f los)) (take n (drop f his)) (take n (drop f tops)) ≡ numbered (sum_block los his tops) n f
blocks-numbered los his tops zero f a b d = refl
blocks-numbered los his tops (suc n) f a b d =
    let la : f < length los = omega arith in
    let lb : f < length his = omega arith in
    let ld : f < length tops = omega arith in
    rw (drop-cons los f 0 la, drop-cons his f 0 lb, drop-cons tops f 0 ld)
    (ap {B = List Block} (λ t. sum_block los his tops f ∷ t) (blocks-numbered los his tops n (suc f) (omega arith) (omega arith) (omega arith)))

-- one list more
pub raised_more : (L : ℕ → Listing) (starts past out new : List ℕ) (w t : ℕ) (bs : List Block) → out ≡ map (ceiling_at (numbered L t 0)) starts ++ past
    → w ≡ (L t).weight → bs ≡ (L t).blocks → new ≡ raise w bs starts out → new ≡ map (ceiling_at (numbered L (t + 1) 0)) starts ++ past
raised_more L starts past out new w t bs o e b r =
    let z : 0 + t ≡ t = omega arith in
    r ∙ rw (e, b, o, add-one t, numbered_snoc L t 0, z) (raise-list (numbered L t 0) (L t) starts past)

-- a ceiling of t lists is small
top-most : (bs : List Block) (d m : ℕ) → All (λ b. b.top ≤ m) bs → top_at bs d ≤ m
top-most [] d m a = omega arith
top-most (b ∷ bs) d m a = split (meets b d) (λ e. rw e a.0) (λ e. rw e (top-most bs d m a.1))

ceiling-most : (L : ℕ → Listing) (d n t : ℕ) → ((i : ℕ) → (L i).weight ≤ 255) → ((i : ℕ) → top_at (L i).blocks d ≤ 65535) → ceiling_at (numbered L n t) d ≤ n * 16711425
ceiling-most L d zero t w h = omega arith
ceiling-most L d (suc n) t w h =
    let p : (L t).weight * top_at (L t).blocks d ≤ 255 * 65535 = mul-le-mul {n₂ = 255} {m₂ = 65535} (w t) (h t) in
    omega (arith, ceiling-most L d n (suc t) w h)

All_ceilings : (L : ℕ → Listing) (n : ℕ) (starts : List ℕ) → ((i : ℕ) → (L i).weight ≤ 255) → ((i d : ℕ) → top_at (L i).blocks d ≤ 65535) → n ≤ 8
    → All (λ c. c < 4278255871) (map (ceiling_at (numbered L n 0)) starts)
All_ceilings L n [] w h l = tt
All_ceilings L n (d ∷ starts) w h l = (omega (arith, ceiling-most L d n 0 w (λ i. h i d)), All_ceilings L n starts w h l)

All_zeros : (n : ℕ) → All (λ c. c < 4278255871) (replicate n 0)
All_zeros zero = tt
All_zeros (suc n) = (omega arith, All_zeros n)

-- the state of `fill_ceilings`
pub record Filling (los his tops ends weights starts old out : List ℕ) (from t : ℕ) : Type 0 where
  pub within : t ≤ length ends
  pub begins : from ≡ from_of ends t
  pub same : length out ≡ length old
  pub raised : out ≡ map (ceiling_at (numbered (list_in (sum_block los his tops) ends weights) t 0)) starts ++ drop (length starts) old

zero-ceilings : (starts : List ℕ) → map (ceiling_at []) starts ≡ replicate (length starts) 0
zero-ceilings [] = refl
zero-ceilings (d ∷ starts) = ap {B = List ℕ} (λ t. 0 ∷ t) (zero-ceilings starts)

drop-zeros : (n m : ℕ) → drop {A = ℕ} n (replicate m 0) ≡ replicate (m - n) 0
drop-zeros zero m = let e : m - 0 ≡ m = omega arith in rw e
drop-zeros (suc n) zero = let e : 0 - suc n ≡ 0 = omega arith in rw e
drop-zeros (suc n) (suc m) = let e : suc m - suc n ≡ m - n = omega arith in rw e (drop-zeros n m)

module _ (los his tops ends weights starts old : List ℕ) (q : Raisable los his tops ends weights starts old) where
  pub filling_none : Filling los his tops ends weights starts old old 0 0
  filling_none = record {
    within = omega arith;
    begins = refl;
    same = refl;
    raised =
        let n = length starts in
        let e : n + (length old - n) ≡ length old = omega (arith, q.room) in
        let z : drop n old ≡ replicate (length old - n) 0 = ap {B = List ℕ} (λ t. drop n t) q.zeros ∙ drop-zeros n (length old) in
        q.zeros ∙ sym (rw (zero-ceilings starts, z, replicate-append-replicate {A = ℕ} n (length old - n) 0, e));
  }

  module _ (out : List ℕ) (from t : ℕ) (s : Filling los his tops ends weights starts old out from t) (l : t < length ends) where
    pub filling_part : (from ≤ get_or ends t 0) × (get_or ends t 0 ≤ length los) × (get_or ends t 0 ≤ length his) × (get_or ends t 0 ≤ length tops)
    filling_part = (rw s.begins (q.seen t l).order, q.least t l, q.greatest t l, q.top t l)

    same_blocks : blocks_of (part from (get_or ends t 0) los) (part from (get_or ends t 0) his) (part from (get_or ends t 0) tops) ≡ (list_in (sum_block los his tops) ends weights t).blocks
    same_blocks =
        let e = get_or ends t 0 in
        rw s.begins
        (blocks-numbered los his tops (e - from_of ends t) (from_of ends t)
        (omega (arith, (q.seen t l).order, q.least t l)) (omega (arith, (q.seen t l).order, q.greatest t l)) (omega (arith, (q.seen t l).order, q.top t l)))

    pub filling_asks : ((i : ℕ) → get_or weights i 0 < 256) → ((i : ℕ) → get_or tops i 0 < 65536)
        → Summaries (part from (get_or ends t 0) los) (part from (get_or ends t 0) his) (part from (get_or ends t 0) tops) × Asc 0 starts × (get_or weights t 0 < 256)
        × (length starts ≤ length out) × All (λ c. c < 4278255871) out
    filling_asks w h =
        let e = get_or ends t 0 in
        let p = filling_part in
        let size : (xs : List ℕ) → e ≤ length xs → length (part from e xs) ≡ e - from = λ xs b. length-take-le (e - from) (drop from xs) (simp length-drop (omega (arith, p.0))) in
        let tall : (i d : ℕ) → top_at (list_in (sum_block los his tops) ends weights i).blocks d ≤ 65535 =
        λ i d. top-most (list_in (sum_block los his tops) ends weights i).blocks d 65535
        (numbered-all (λ b. b.top ≤ 65535) (sum_block los his tops) (get_or ends i 0 - from_of ends i) (from_of ends i) (λ j a b. omega (arith, h j))) in (
          record {
            his-even = size los p.1 ∙ sym (size his p.2);
            tops-even = size los p.1 ∙ sym (size tops p.3);
            rises = rw same_blocks (q.seen t l).rises;
          },
          q.rises,
          w t,
          omega (arith, s.same, q.room),
          rw s.raised
              (All_append (λ c. c < 4278255871) (map (ceiling_at (numbered (list_in (sum_block los his tops) ends weights) t 0)) starts) (drop (length starts) old)
              (All_ceilings (list_in (sum_block los his tops) ends weights) t starts (λ i. omega (arith, w i)) tall (omega (arith, q.few)))
              (rw (q.zeros, drop-zeros (length starts) (length old)) (All_zeros (length old - length starts)))),
        )

    pub filling_more : (w : ℕ) (new : List ℕ) → w ≡ get_or weights t 0 → length new ≡ length out
        → new ≡ raise w (blocks_of (part from (get_or ends t 0) los) (part from (get_or ends t 0) his) (part from (get_or ends t 0) tops)) starts out
        → Filling los his tops ends weights starts old new (get_or ends t 0) (t + 1)
    filling_more w new e n r = record {
      within = omega arith;
      begins = rw (add-one t);
      same = n ∙ s.same;
      raised = raised_more (list_in (sum_block los his tops) ends weights) starts (drop (length starts) old) out new w t _ s.raised e same_blocks r;
    }

  pub filling_done : (out : List ℕ) (from t : ℕ) → Filling los his tops ends weights starts old out from t → length ends ≤ t
      → out ≡ ceilings_in los his tops ends weights starts ++ drop (length starts) old
  filling_done out from t s l = let e : t ≡ length ends = omega (arith, s.within) in rw e at s.raised

-- ---- cuts and ceilings look at summaries alone

top-same : (A B : ℕ → Block) (d n f : ℕ) → ((i : ℕ) → (A i).least ≡ (B i).least) → ((i : ℕ) → (A i).greatest ≡ (B i).greatest) → ((i : ℕ) → (A i).top ≡ (B i).top)
    → top_at (numbered A n f) d ≡ top_at (numbered B n f) d
top-same A B d zero f l g t = refl
top-same A B d (suc n) f l g t = rw (l f, g f, t f, top-same A B d n (suc f) l g t)

pub ceiling-same : (A B : ℕ → Block) (ends ws : List ℕ) (d n t : ℕ) → ((i : ℕ) → (A i).least ≡ (B i).least) → ((i : ℕ) → (A i).greatest ≡ (B i).greatest) → ((i : ℕ) → (A i).top ≡ (B i).top)
    → ceiling_at (numbered (list_in A ends ws) n t) d ≡ ceiling_at (numbered (list_in B ends ws) n t) d
ceiling-same A B ends ws d zero t l g h = refl
ceiling-same A B ends ws d (suc n) t l g h =
    rw (top-same A B d (get_or ends t 0 - from_of ends t) (from_of ends t) l g h, ceiling-same A B ends ws d n (suc t) l g h)
