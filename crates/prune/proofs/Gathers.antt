-- The state of the gathering of a list's cuts, block by block. Assumes nothing.
use Prim.Native.Nat.{ℕ, zero, suc, ◌+◌, ◌*◌, ◌≤◌, ◌<◌}
use mathlib.Core.Path.{◌≡◌, refl, sym, ap, ◌∙◌}
use mathlib.Core.Bool.{◌&&◌}
use mathlib.Core.List.{List, [], ◌∷◌, ◌++◌}
use native.Mathlib.Omega.{arith}
use native.Mathlib.Numerals.{add-one}
use lib.ListN.{length, get_or, take, drop, set, length-set, take-append-drop}
use lib.Seq.{take-suc, length-take-le}
use Rattle.model.specs.Runs.{adds, has, Asc, All, Holds}
use Rattle.prune.specs.Cut.{keeps_cut, add_cut, add_cuts}
use Rattle.model.proofs.Lists.{split, or_false, All_map}
use Rattle.model.proofs.Runs.{asc_ext, asc_adds, asc_all, asc_less, has-adds, All_add}
use Rattle.prune.proofs.Cuts.{adds_asc, has-cuts, cut_asc}
use Rattle.prune.specs.Gather.{Blocks, Up, edges_of}
use Rattle.model.proofs.Storing.{front-more, past_more, run_holds, holds-take, holds_trans}
use Rattle.prune.proofs.Pushes.{cut-grows, cut-few}

-- A copy
pub record Copying (from old to : List ℕ) (n k : ℕ) : Type 0 where
  pub k-in : k ≤ n
  pub same : length to ≡ length old
  pub front : take k to ≡ take k from
  pub past : drop k to ≡ drop k old

pub copying_none : (from old : List ℕ) (n : ℕ) → Copying from old old n 0
copying_none from old n = record { k-in = omega arith; same = refl; front = refl; past = refl }

pub copying_more : (from old to : List ℕ) (n k : ℕ) → n ≤ length from → n ≤ length old → k < n → Copying from old to n k → Copying from old (set to k (get_or from k 0)) n (k + 1)
copying_more from old to n k f t l s = record {
  k-in = omega arith;
  same = length-set to k (get_or from k 0) ∙ s.same;
  front = front-more to k (get_or from k 0) (omega (arith, s.same)) ∙ rw (s.front, add-one k) (sym (take-suc from k 0 (omega arith)));
  past = past_more old to k (get_or from k 0) s.past;
}

pub copying_done : (from old to : List ℕ) (n k : ℕ) → n ≤ length old → n ≤ k → Copying from old to n k → Holds old (take n from) to n
copying_done from old to n k t l s =
    let e : k ≡ n = omega (arith, s.k-in) in
    run_holds old (take n from) to n (omega (arith, s.same)) (rw e at s.front) (rw e at s.past)

-- The edges of the first blocks
edges-suc : (k : ℕ) (los his : List ℕ) → k < length los → length los ≡ length his
    → edges_of (take (suc k) los) (take (suc k) his) ≡ edges_of (take k los) (take k his) ++ (get_or los k 0 ∷ (get_or his k 0 + 1) ∷ [])
edges-suc k [] his l e = absurd (omega arith)
edges-suc k (x ∷ los) [] l e = absurd (omega arith)
edges-suc zero (x ∷ los) (y ∷ his) l e = refl
edges-suc (suc k) (x ∷ los) (y ∷ his) l e = ap {B = List ℕ} (λ t. x ∷ (y + 1) ∷ t) (edges-suc k los his (omega arith) (omega arith))

pub cuts-append : (lim : ℕ) (cs es fs : List ℕ) → add_cuts lim cs (es ++ fs) ≡ add_cuts lim (add_cuts lim cs es) fs
cuts-append lim cs [] fs = refl
cuts-append lim cs (e ∷ es) fs = cuts-append lim (add_cut lim cs e) es fs

pub edges_few : (los his : List ℕ) → length (edges_of los his) ≤ 2 * length los
edges_few [] his = omega arith
edges_few (x ∷ los) [] = omega arith
edges_few (x ∷ los) (y ∷ his) = omega (arith, edges_few los his)

pub adds-few : (lim : ℕ) (cs es : List ℕ) → length (add_cuts lim cs es) ≤ length cs + length es
adds-few lim cs [] = omega arith
adds-few lim cs (e ∷ es) = omega (arith, adds-few lim (add_cut lim cs e) es, cut-few lim e cs)

pub adds-all : (P : ℕ → Type 0) (lim : ℕ) (cs es : List ℕ) → All P cs → All P es → All P (add_cuts lim cs es)
adds-all P lim cs [] a b = a
adds-all P lim cs (e ∷ es) a b = adds-all P lim (add_cut lim cs e) es (split (keeps_cut lim e) (λ k. rw k (All_add P e cs b.0 a)) (λ k. rw k a)) b.1

-- in edges that do not fall those of the first blocks are at most the next least
up_from : (n k : ℕ) (los his : List ℕ) → k < length los → length los ≡ length his → Up n (edges_of los his) → n ≤ get_or los k 0
up_from n k [] his l e u = absurd (omega arith)
up_from n k (x ∷ los) [] l e u = absurd (omega arith)
up_from n zero (x ∷ los) (y ∷ his) l e u = u.0
up_from n (suc k) (x ∷ los) (y ∷ his) l e u = omega (arith, up_from (y + 1) k los his (omega arith) (omega arith) u.1.1, u.0, u.1.0)

pub up-before : (n k : ℕ) (los his : List ℕ) → k < length los → length los ≡ length his → Up n (edges_of los his)
    → All (λ x. x ≤ get_or los k 0) (edges_of (take k los) (take k his))
up-before n zero los his l e u = tt
up-before n (suc k) [] his l e u = tt
up-before n (suc k) (x ∷ los) [] l e u = tt
up-before n (suc k) (x ∷ los) (y ∷ his) l e u =
    let m : y + 1 ≤ get_or los k 0 = up_from (y + 1) k los his (omega arith) (omega arith) u.1.1 in
    (omega (arith, u.1.0), (m, up-before (y + 1) k los his (omega arith) (omega arith) u.1.1))

pub up_pair : (n k : ℕ) (los his : List ℕ) → k < length los → length los ≡ length his → Up n (edges_of los his) → get_or los k 0 ≤ get_or his k 0 + 1
up_pair n k [] his l e u = absurd (omega arith)
up_pair n k (x ∷ los) [] l e u = absurd (omega arith)
up_pair n zero (x ∷ los) (y ∷ his) l e u = u.1.0
up_pair n (suc k) (x ∷ los) (y ∷ his) l e u = up_pair (y + 1) k los his (omega arith) (omega arith) u.1.1

pub after-fits : (lim k : ℕ) (los his : List ℕ) → Blocks lim los his → k < length los → get_or his k 0 ≤ lim
after-fits lim k los his b l = at k his (omega (arith, b.even)) b.most
  where
    at : (i : ℕ) (xs : List ℕ) → i < length xs → All (λ g. g ≤ lim) xs → get_or xs i 0 ≤ lim
    at i [] l all = absurd (omega arith)
    at zero (x ∷ xs) l all = all.0
    at (suc i) (x ∷ xs) l all = at i xs (omega arith) all.1

-- The state: `cs`, with the cuts of the first `k` blocks put in, stands at the front, `n` long
pub record Gathering (lim : ℕ) (cs los his old out : List ℕ) (n k : ℕ) : Type 0 where
  pub k-in : k ≤ length los
  pub same : length out ≡ length old
  pub held : Holds old (add_cuts lim cs (edges_of (take k los) (take k his))) out n

pub gathering_few : (lim : ℕ) (cs los his old out : List ℕ) (n k : ℕ) → Gathering lim cs los his old out n k → n ≤ length cs + 2 * k
gathering_few lim cs los his old out n k s =
    omega (arith, s.held.count, adds-few lim cs (edges_of (take k los) (take k his)), edges_few (take k los) (take k his), length-take-le k los s.k-in)

module _ (lim : ℕ) (cs los his old out : List ℕ) (n k : ℕ) (s : Gathering lim cs los his old out n k) where
  pub gathered : take n out ≡ add_cuts lim cs (edges_of (take k los) (take k his))
  gathered = holds-take old (add_cuts lim cs (edges_of (take k los) (take k his))) out n s.held

  pub gathering_asc : Asc 1 cs → Asc 1 (take n out)
  gathering_asc a = rw gathered (adds_asc lim cs (edges_of (take k los) (take k his)) a)

  pub gathering_most : Blocks lim los his → k < length los → All (λ x. x ≤ get_or los k 0) cs → All (λ x. x ≤ get_or los k 0) (take n out)
  gathering_most b l a =
      rw gathered (adds-all (λ x. x ≤ get_or los k 0) lim cs (edges_of (take k los) (take k his)) a (up-before 0 k los his l b.even b.up))

  pub gathering_more : (mid new : List ℕ) (m r : ℕ) → k < length los → length los ≡ length his → length new ≡ length out
      → Holds out (add_cut lim (take n out) (get_or los k 0)) mid m → Holds mid (add_cut lim (take m mid) (get_or his k 0 + 1)) new r
      → Gathering lim cs los his old new r (k + 1)
  gathering_more mid new m r l e w h j = record {
    k-in = omega arith;
    same = w ∙ s.same;
    held = rw both (holds_trans old xs mid zs new m r (holds_trans old run out xs mid n m s.held first one) second two);
  }
    where
      x : ℕ
      x = get_or los k 0

      y : ℕ
      y = get_or his k 0 + 1

      run : List ℕ
      run = add_cuts lim cs (edges_of (take k los) (take k his))

      xs : List ℕ
      xs = add_cut lim run x

      zs : List ℕ
      zs = add_cut lim xs y

      both : add_cuts lim cs (edges_of (take (k + 1) los) (take (k + 1) his)) ≡ zs
      both = rw (add-one k, edges-suc k los his l e) (cuts-append lim cs (edges_of (take k los) (take k his)) (x ∷ y ∷ []))

      first : Holds out xs mid m
      first = rw gathered at h

      second : Holds mid zs new r
      second = rw (holds-take out xs mid m first) at j

      one : n ≤ m
      one = omega (arith, s.held.count, first.count, cut-grows lim x run)

      two : m ≤ r
      two = omega (arith, first.count, second.count, cut-grows lim y xs)

  -- there is room for two more
  pub gathering_room : k < length los → length cs + 2 * length los ≤ length old → n + 1 < length out
  gathering_room l h = omega (arith, gathering_few lim cs los his old out n k s, s.same)

  -- what the calls ask, for a block's two edges
  pub first_asks : Asc 1 cs → k < length los → length cs + 2 * length los ≤ length old → (n < length out) × Asc 1 (take n out)
  first_asks a l h = (omega (arith, gathering_room l h), gathering_asc a)

  pub second_asks : (mid : List ℕ) (m : ℕ) → Asc 1 cs → k < length los → length cs + 2 * length los ≤ length old → length mid ≡ length out
      → Holds out (add_cut lim (take n out) (get_or los k 0)) mid m → (m < length mid) × Asc 1 (take m mid)
  second_asks mid m a l h w j = (
    omega (arith, gathering_room l h, j.count, cut-few lim (get_or los k 0) (take n out), length-take-le n out (omega (arith, gathering_room l h))),
    rw (holds-take out (add_cut lim (take n out) (get_or los k 0)) mid m j) (cut_asc lim (get_or los k 0) (take n out) (gathering_asc a)),
  )

  pub second_most : (mid : List ℕ) (m : ℕ) → Blocks lim los his → All (λ x. x ≤ get_or los k 0) cs → k < length los
      → Holds out (add_cut lim (take n out) (get_or los k 0)) mid m → All (λ x. x ≤ get_or his k 0 + 1) (take m mid)
  second_most mid m b a l j =
      let p : get_or los k 0 ≤ get_or his k 0 + 1 = up_pair 0 k los his l b.even b.up in
      rw (holds-take out (add_cut lim (take n out) (get_or los k 0)) mid m j)
      (All_map (add_cut lim (take n out) (get_or los k 0)) (λ x h. omega arith)
      (adds-all (λ x. x ≤ get_or los k 0) lim (take n out) (get_or los k 0 ∷ []) (gathering_most b l a) (omega arith, tt)))

-- A run of cuts merged into another is the same as its edges put in one by one
pub merged : (lim : ℕ) (cs es : List ℕ) → Asc 1 cs → adds cs (add_cuts lim [] es) ≡ add_cuts lim cs es
merged lim cs es a =
    asc_ext 1 1 (adds cs (add_cuts lim [] es)) (add_cuts lim cs es)
    (asc_adds 1 cs (add_cuts lim [] es) (asc_all 1 1 (add_cuts lim [] es) (omega arith) (adds_asc lim [] es tt)) a) (adds_asc lim cs es a)
    (λ d. has-adds d cs (add_cuts lim [] es) ∙ rw (has-cuts lim d [] es, or_false (keeps_cut lim d && has d es)) (sym (has-cuts lim d cs es)))

-- The steps of `add_list`: a list's own cuts, the merge, and the copy back
module _ (lim : ℕ) (los his old one : List ℕ) (m : ℕ) (h : Holds old (add_cuts lim [] (edges_of los his)) one m) where
  pub list-few : m ≤ 2 * length los
  list-few = omega (arith, h.count, adds-few lim [] (edges_of los his), edges_few los his)

  pub list-taken : take m one ≡ add_cuts lim [] (edges_of los his)
  list-taken = holds-take old (add_cuts lim [] (edges_of los his)) one m h

  pub list_asc : Asc 0 (take m one)
  list_asc = rw list-taken (asc_less 1 0 (add_cuts lim [] (edges_of los his)) (omega arith) (adds_asc lim [] (edges_of los his) tt))

  module _ (n : ℕ) (run zeros both : List ℕ) (r : ℕ) (a : Asc 1 (take n run)) (k : Holds zeros (adds (take n run) (take m one)) both r) where
    pub merge-taken : take r both ≡ add_cuts lim (take n run) (edges_of los his)
    merge-taken = holds-take zeros (adds (take n run) (take m one)) both r k ∙ rw list-taken (merged lim (take n run) (edges_of los his) a)

    pub merge-few : n ≤ length run → r ≤ n + 2 * length los
    merge-few l =
        omega (
          arith,
          k.count,
          ap length (sym (holds-take zeros (adds (take n run) (take m one)) both r k) ∙ merge-taken),
          adds-few lim (take n run) (edges_of los his),
          edges_few los his,
          length-take-le n run l,
        )

    pub merge-whole : (new : List ℕ) (t : ℕ) → Holds run (take r both) new t → Holds run (add_cuts lim (take n run) (edges_of los his)) new t
    merge-whole new t j = rw merge-taken at j

-- a list without blocks adds no cut
pub none_added : (lim n : ℕ) (los his run : List ℕ) → length los ≡ 0 → n ≤ length run → Holds run (add_cuts lim (take n run) (edges_of los his)) run n
none_added lim n [] his run e l = record { count = sym (length-take-le n run l); whole = sym (take-append-drop n run) }
none_added lim n (x ∷ los) his run e l = absurd (omega arith)
