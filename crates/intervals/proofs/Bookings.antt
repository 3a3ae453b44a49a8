-- From gathered blocks to the book's rows: what each step asks, and what the runs hold then. Assumes nothing.
use Prim.Native.Nat.{ℕ, zero, suc, ◌+◌, ◌-◌, ◌≤◌, ◌<◌}
use mathlib.Core.Path.{◌≡◌, refl, sym, ap, ◌∙◌, subst}
use mathlib.Core.Bool.{true, false, ◌&&◌}
use mathlib.Core.List.{List, [], ◌∷◌, ◌++◌, map}
use native.Mathlib.Omega.{arith}
use native.Mathlib.Numerals.{add-one}
use lib.Dec.{leb}
use lib.ListN.{length, get_or, take, drop, replicate, length-append, length-drop, length-map}
use lib.Seq.{take_at}
use borrow.Author.Tests.{leb-true}
use Rattle.model.specs.Limits.{max_docid}
use Rattle.model.specs.Runs.{All, Holds}
use Rattle.model.proofs.Lists.{and-true, both_ways}
use Rattle.model.proofs.Storing.{holds-take}
use Rattle.prune.specs.Cut.{Block, Listing, Rises, ceiling_at, cuts, add_cuts, starts}
use Rattle.prune.specs.Gather.{Fine, flat_edges}
use Rattle.prune.proofs.Cuts.{cuts_asc}
use Rattle.opening.specs.Table.{numbered, from_of, lists_in, block_in, sum_block, Ends}
use Rattle.intervals.specs.Book.{ceilings_in, Raisable}
use Rattle.intervals.specs.Run.{Runnable}
use Rattle.intervals.specs.Blocks.{Walked, room_for, Books, Over}
use Rattle.intervals.proofs.Tables.{table_fine, table-cuts, ceiling-same}
use Rattle.std.specs.Prelude.{Result, Err}
use Rattle.model.specs.Refusal.{refusal}
use Rattle.model.specs.declared.refusal.Fault.TheVariants as fault
use Rattle.intervals.specs.Stopped.{early}
use Rattle.intervals.specs.declared.stopped.Stopped.{Stopped}
use Rattle.intervals.specs.declared.blocks.Booked.{Booked}

rises-same : (A B : ℕ → Block) (p n f : ℕ) → ((i : ℕ) → (A i).least ≡ (B i).least) → ((i : ℕ) → (A i).greatest ≡ (B i).greatest) → Rises p (numbered A n f) → Rises p (numbered B n f)
rises-same A B p zero f l g r = tt
rises-same A B p (suc n) f l g r =
    (omega (arith, r.0, l f), omega (arith, r.1, l f, g f), rw (g f) at (rises-same A B (A f).greatest n (suc f) l g r.2))

below-same : (A B : ℕ → Block) (m n f : ℕ) → ((i : ℕ) → (A i).greatest ≡ (B i).greatest) → All (λ b. b.greatest ≤ m) (numbered A n f) → All (λ b. b.greatest ≤ m) (numbered B n f)
below-same A B m zero f g a = tt
below-same A B m (suc n) f g a = (omega (arith, a.0, g f), below-same A B m n (suc f) g a.1)

map_on : (f g : ℕ → ℕ) (xs : List ℕ) → ((x : ℕ) → f x ≡ g x) → map f xs ≡ map g xs
map_on f g [] h = refl
map_on f g (x ∷ xs) h = cc (h x, map_on f g xs h)

-- a prefix, as the code lends it
pub front-part : (n : ℕ) (xs : List ℕ) → take (n - 0) (drop 0 xs) ≡ take n xs
front-part n xs = let e : n - 0 ≡ n = omega arith in rw e

module _ (s ends los his tops counts bodies weights : List ℕ) (k : ℕ) (ok : Walked s ends los his tops counts bodies weights k) where
  abbrev B : ℕ → Block
  B = block_in s los his tops counts bodies

  abbrev ls : List Listing
  ls = lists_in B ends weights

  in_los : (t : ℕ) → t < length ends → get_or ends t 0 ≤ length los
  in_los t l = ok.least_in t (omega (arith, ok.lists))

  in_his : (t : ℕ) → t < length ends → get_or ends t 0 ≤ length his
  in_his t l = ok.greatest_in t (omega (arith, ok.lists))

  in_tops : (t : ℕ) → t < length ends → get_or ends t 0 ≤ length tops
  in_tops t l = ok.top_in t (omega (arith, ok.lists))

  seen : (t : ℕ) → t < length ends → Ends B ends (length los) t
  seen t l = let e = ok.seen t (omega (arith, ok.lists)) in record { order = e.order; most = e.most; upto = in_los t l; rises = e.rises; below = e.below }

  pub blocks_fine : Fine max_docid 0 ends los his
  blocks_fine = table_fine B los his ends (λ i. refl) (λ i. refl) in_los in_his seen

  -- ---- the cuts
  module _ (old run : List ℕ) (m : ℕ) (h : Holds old (add_cuts max_docid [] (flat_edges 0 ends los his)) run m) where
    cuts_are : take m run ≡ cuts max_docid ls
    cuts_are = holds-take old (add_cuts max_docid [] (flat_edges 0 ends los his)) run m h ∙ table-cuts B los his ends (λ i. refl) (λ i. refl) in_los in_his seen weights

    pub starts_are : take (m + 1) (1 ∷ run) ≡ starts max_docid ls
    starts_are = rw (add-one m) (ap {B = List ℕ} (λ t. 1 ∷ t) cuts_are)

    pub count-is : m + 1 ≡ length (starts max_docid ls)
    count-is =
        let e : length (add_cuts max_docid [] (flat_edges 0 ends los his)) ≡ length (cuts max_docid ls) = ap length (table-cuts B los his ends (λ i. refl) (λ i. refl) in_los in_his seen weights) in
        omega (arith, h.count)

    pub cuts-few : length run ≡ length old → m ≤ length run
    cuts-few e =
        omega (arith, h.count, ap length h.whole, length-append (add_cuts max_docid [] (flat_edges 0 ends los his)) (drop m old), length-drop m old)

    -- ---- the first docids
    module _ (fs fs' : List ℕ) (f : Holds fs (take (m + 1) (1 ∷ run)) fs' (m + 1)) where
      pub firsts_are : take (m + 1 - 0) (drop 0 fs') ≡ starts max_docid ls
      firsts_are = front-part (m + 1) fs' ∙ holds-take fs (take (m + 1) (1 ∷ run)) fs' (m + 1) f ∙ starts_are

      -- as many as there are intervals
      pub size_is : m + 1 ≡ length (take (m + 1 - 0) (drop 0 fs'))
      size_is = count-is ∙ sym (ap length firsts_are)

      pub blocks-raise : (zeros : List ℕ) → m + 1 ≤ length zeros → zeros ≡ replicate (length zeros) 0 → Raisable los his tops ends weights (take (m + 1 - 0) (drop 0 fs')) zeros
      blocks-raise zeros l z = rw firsts_are (record {
        rises = (omega arith, cuts_asc max_docid ls);
        room = omega (arith, count-is);
        zeros = z;
        few = omega (arith, ok.lists);
        weighted = omega (arith, ok.lists, ok.weighted);
        least = in_los;
        greatest = in_his;
        top = in_tops;
        seen = λ t x. let e = seen t x in
            record {
              order = e.order;
              most = e.most;
              upto = e.upto;
              rises = rises-same B (sum_block los his tops) 0 (get_or ends t 0 - from_of ends t) (from_of ends t) (λ i. refl) (λ i. refl) e.rises;
              below = below-same B (sum_block los his tops) max_docid (get_or ends t 0 - from_of ends t) (from_of ends t) (λ i. refl) e.below;
            };
      })

      -- ---- the ceilings
      module _ (zeros tall : List ℕ) (c : tall ≡ ceilings_in los his tops ends weights (take (m + 1 - 0) (drop 0 fs')) ++ drop (length (take (m + 1 - 0) (drop 0 fs'))) zeros) where
        pub tall_is : take (m + 1) tall ≡ map (ceiling_at ls) (starts max_docid ls)
        tall_is =
            let same : ceilings_in los his tops ends weights (starts max_docid ls) ≡ map (ceiling_at ls) (starts max_docid ls) =
            map_on (ceiling_at (lists_in (sum_block los his tops) ends weights)) (ceiling_at ls) (starts max_docid ls)
            (λ d. ceiling-same (sum_block los his tops) B ends weights d (length ends) 0 (λ i. refl) (λ i. refl) (λ i. refl)) in
            let long : length (ceilings_in los his tops ends weights (starts max_docid ls)) ≡ m + 1 = length-map (starts max_docid ls) (ceiling_at (lists_in (sum_block los his tops) ends weights)) ∙ sym count-is in
            let d : tall ≡ ceilings_in los his tops ends weights (starts max_docid ls) ++ drop (length (starts max_docid ls)) zeros = rw firsts_are at c in
            rw d (take_at (ceilings_in los his tops ends weights (starts max_docid ls)) (drop (length (starts max_docid ls)) zeros) (m + 1) long) ∙ same

        pub blocks-run : (ms : List ℕ) → m + 1 ≤ length ms → m ≤ 1024 → Runnable s ends los his tops counts bodies weights k (take (m + 1 - 0) (drop 0 fs')) (take (m + 1 - 0) (drop 0 tall)) ms
        blocks-run ms l few = rw (firsts_are, front-part (m + 1) tall, tall_is) (record {
          lists = ok.lists;
          weighted = ok.weighted;
          seen = ok.seen;
          least_in = ok.least_in;
          greatest_in = ok.greatest_in;
          load = ok.load;
          first = refl;
          ceiled = refl;
          least = ok.least;
          most = ok.most;
          room = omega (arith, count-is);
          few = omega (arith, count-is);
        })

        -- what was searched is over so many intervals
        run-over : (ms ms' : List ℕ) (r : Result Booked Stopped) → Over s ends los his tops counts bodies weights k (take (m + 1 - 0) (drop 0 fs')) ms ms' r → Over s ends los his tops counts bodies weights k (starts max_docid ls) ms ms' r
        run-over ms ms' r u = subst (λ (x : List ℕ). Over s ends los his tops counts bodies weights k x ms ms' r) firsts_are u

        pub blocks-done : (cs cs' ms ms' : List ℕ) (r : Result Booked Stopped) (x : ℕ) → room_for (m + 1) (length fs) (length cs) (length ms) ≡ true → Holds cs (take (m + 1) tall) cs' x
            → Over s ends los his tops counts bodies weights k (take (m + 1 - 0) (drop 0 fs')) ms ms' r
            → Books s ends los his tops counts bodies weights k fs cs ms fs' cs' ms' r
        blocks-done cs cs' ms ms' r x e g u =
            let n : x ≡ m + 1 = omega (arith, g.count, ap length tall_is, length-map (starts max_docid ls) (ceiling_at ls), count-is) in
            record {
              filled = λ x. record {
                firsts = f.whole ∙ rw count-is (ap {B = List ℕ} (λ t. t ++ drop (length (starts max_docid ls)) fs) (rw count-is at starts_are));
                ceilings = g.whole ∙ rw (tall_is, n, count-is);
                run = run-over ms ms' r u;
              };
              refused = λ x. both_ways (room_for (length (starts max_docid ls)) (length fs) (length cs) (length ms)) (rw count-is at e) x;
            }

    pub blocks-short : (fs cs ms : List ℕ) → room_for (m + 1) (length fs) (length cs) (length ms) ≡ false
        → Books s ends los his tops counts bodies weights k fs cs ms fs cs ms (Err (early (refusal fault.Room 0)))
    blocks-short fs cs ms e = record {
      filled = λ x. both_ways (room_for (length (starts max_docid ls)) (length fs) (length cs) (length ms)) x (rw count-is at e);
      refused = λ x. record { refused = refl; firsts = refl; ceilings = refl; marks = refl };
    }

pub room_of : (n a b c : ℕ) → room_for n a b c ≡ true → (n ≤ a) × (n ≤ b) × (n ≤ c)
room_of n a b c e =
    let p = and-true (leb n a) (leb n b && leb n c) e in
    let q = and-true (leb n b) (leb n c) p.1 in
    (leb-true n a p.0, leb-true n b q.0, leb-true n c q.1)
