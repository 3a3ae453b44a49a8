-- The blocks of the lists that were found, laid into runs block by block and list by list. Assumes nothing.
use Prim.Native.Nat.{ℕ, zero, suc, ◌+◌, ◌-◌, ◌*◌, ◌≤◌, ◌<◌}
use native.Mathlib.Omega.{arith}
use native.Mathlib.Nat.{add-zero}
use native.Mathlib.Numerals.{add-one}
use mathlib.Core.Path.{◌≡◌, refl, sym, ap, ◌∙◌}
use mathlib.Core.List.{List, [], ◌∷◌, ◌++◌, map, map-append, append-nil, append_assoc}
use borrow.Author.Tests.{ltb-true, ltb-false}
use lib.Dec.{ltb}
use lib.ListN.{length, get_or, set, drop, replicate, length-set, length-append, length-drop}
use Rattle.model.specs.Limits.{per_list, max_terms}
use Rattle.model.specs.Runs.{Stored, Holds}
use Rattle.model.proofs.Lists.{split, map-length}
use Rattle.model.proofs.Storing.{Rest, rest-start, rest-turn, rest_end, stored-append, stored_as, stored-length, stored-holds, front-more, past_more, run_holds, holds-take, holds-drop}
use Rattle.block.specs.declared.summary.Summary.{Summary}
use Rattle.shelf.specs.Walk.{Block, blocks_of, blocks_at}
use Rattle.shelf.specs.Blocks.{blocks_left, Rests, Finds}
use Rattle.shelf.proofs.Readings.{stands_rests}
use Rattle.lookup.specs.Table.{least, greatest, top, count, tag_at, max_blocks, Five, runs, Layable, Lays, found_lists, Gatherable, flat, ends_from, Gathered}
use Rattle.shelf.specs.declared.blocks.Reading.{Reading}

-- ---- how many blocks

of_length : (n a b : ℕ) (m s : List ℕ) → length (blocks_of n a m b s) ≡ n
unfolding blocks_of
of_length zero a b m s = refl
of_length (suc n) a b m s = ap suc (of_length n (a + 12) _ (drop 12 m) _)

pub blocks-length : (s : List ℕ) (at n : ℕ) → length (blocks_at s at n) ≡ n
unfolding blocks_at
blocks-length s at n = of_length n (at + 8) (at + 8 + 12 * n) (drop (at + 8) s) (drop (at + 8 + 12 * n) s)

-- ---- one list

-- of one run: a number of each of `all` is laid from j on, and those of `bs` are left, from i on
abbrev Run : (Block → ℕ) → (l m : List ℕ) (j i : ℕ) (all bs : List Block) → Type 0
Run f l m j i all bs = Rest l m j i (map f all) (map f bs)

run-turn : (f : Block → ℕ) (l m : List ℕ) (j i x : ℕ) (all bs cs : List Block) (b : Block) → bs ≡ b ∷ cs → f b ≡ x → Run f l m j i all bs → Run f l (set m i x) j (i + 1) all cs
run-turn f l m j i x all bs cs b e q r =
    rest-turn (x ∷ []) (map f cs) (ap (λ (y : List Block). map f y) e ∙ ap (λ (y : ℕ). y ∷ map f cs) q) r (record { past = omega arith; whole = refl })

run_end : (f : Block → ℕ) (l m : List ℕ) (j i : ℕ) (all bs : List Block) → bs ≡ [] → Run f l m j i all bs → Stored l m j i (map f all)
run_end f l m j i all bs e r = rest_end (ap (λ (y : List Block). map f y) e) r

pub record Laying (s : List ℕ) (all : List Block) (j i : ℕ) (r : Reading) (old new : Five) : Type 0 where
  pub rests : Rests s r
  pub room : j + length all ≤ max_blocks
  pub los : Run least old.los new.los j i all (blocks_left s r)
  pub his : Run greatest old.his new.his j i all (blocks_left s r)
  pub tops : Run top old.tops new.tops j i all (blocks_left s r)
  pub counts : Run count old.counts new.counts j i all (blocks_left s r)
  pub bodies : Run tag_at old.bodies new.bodies j i all (blocks_left s r)

pub laying_start : (s : List ℕ) (at n j : ℕ) (to : Five) → Layable s at n j to → (n ≡ 0 → ⊥) →
    Laying s (blocks_at s at n) j j (record { sum = at + 8; body = at + 8 + 12 * n; left = n }) to to
unfolding blocks_at blocks_left
laying_start s at n j to h z =
    let k = h.ready (omega arith) in
    let bs = blocks_at s at n in
    record {
      rests = stands_rests s at n k.0 k.1;
      room = omega (arith, h.room, blocks-length s at n);
      los = rest-start to.los j (map least bs);
      his = rest-start to.his j (map greatest bs);
      tops = rest-start to.tops j (map top bs);
      counts = rest-start to.counts j (map count bs);
      bodies = rest-start to.bodies j (map tag_at bs);
    }

module _ (s : List ℕ) (all : List Block) (j i : ℕ) (r : Reading) (old new : Five) (g : Laying s all j i r old new) where
  module _ (b : Block) (v e : ℕ) (next : Reading) (m : Summary) (q : b.sum ≡ m) (f : Finds s r b v e next) where
    pub laying_room : i < max_blocks
    laying_room =
        omega (arith, g.room, g.los.place, map-length least (blocks_left s r), map-length least all, ap length f.left)

    pub laying_turn : Laying s all j (i + 1) next old
        (runs (set new.los i m.least) (set new.his i m.greatest) (set new.tops i m.top) (set new.counts i m.count) (set new.bodies i (v - 3)))
    laying_turn =
        let rest = blocks_left s next in
        let here = blocks_left s r in
        record {
          rests = f.rests;
          room = g.room;
          los = run-turn least old.los new.los j i m.least all here rest b f.left (ap (λ (x : Summary). x.least) q) g.los;
          his = run-turn greatest old.his new.his j i m.greatest all here rest b f.left (ap (λ (x : Summary). x.greatest) q) g.his;
          tops = run-turn top old.tops new.tops j i m.top all here rest b f.left (ap (λ (x : Summary). x.top) q) g.tops;
          counts = run-turn count old.counts new.counts j i m.count all here rest b f.left (ap (λ (x : Summary). x.count) q) g.counts;
          bodies = run-turn tag_at old.bodies new.bodies j i (v - 3) all here rest b f.left (omega (arith, f.tag)) g.bodies;
        }

  pub laying_end : blocks_left s r ≡ [] → Lays all j i old new
  laying_end e =
      let here = blocks_left s r in
      record {
        los = run_end least old.los new.los j i all here e g.los;
        his = run_end greatest old.his new.his j i all here e g.his;
        tops = run_end top old.tops new.tops j i all here e g.tops;
        counts = run_end count old.counts new.counts j i all here e g.counts;
        bodies = run_end tag_at old.bodies new.bodies j i all here e g.bodies;
      }

-- a list without blocks
pub lays_none : (s : List ℕ) (at n j : ℕ) (to : Five) → n ≡ 0 → Lays (blocks_at s at n) j j to to
unfolding blocks_at blocks_of
lays_none s at n j to z = rw z (record { los = same to.los; his = same to.his; tops = same to.tops; counts = same to.counts; bodies = same to.bodies })
  where
    same : (l : List ℕ) → Stored l l j j []
    same l = record { past = sym (add-zero j); whole = refl }

-- ---- all lists

flat-more : (ls : List (List Block)) (bs : List Block) → flat (ls ++ (bs ∷ [])) ≡ flat ls ++ bs
flat-more [] bs = append-nil bs
flat-more (cs ∷ ls) bs = rw (flat-more ls bs) (sym (append_assoc cs (flat ls) bs))

ends_more : (k : ℕ) (ls : List (List Block)) (bs : List Block) → ends_from k (ls ++ (bs ∷ [])) ≡ ends_from k ls ++ ((k + length (flat ls ++ bs)) ∷ [])
ends_more k [] bs = refl
ends_more k (cs ∷ ls) bs =
    let e : k + length cs + length (flat ls ++ bs) ≡ k + length ((cs ++ flat ls) ++ bs) = omega (arith, length-append cs (flat ls), length-append (cs ++ flat ls) bs, length-append (flat ls) bs) in
    ap {B = List ℕ} (λ x. (k + length cs) ∷ x) (ends_more (k + length cs) ls bs ∙ ap (λ (x : ℕ). ends_from (k + length cs) ls ++ (x ∷ [])) e)

-- one number more at the end of a run that is held at the front
holds_more : (old xs new : List ℕ) (o x : ℕ) → o < length new → Holds old xs new o → Holds old (xs ++ (x ∷ [])) (set new o x) (o + 1)
holds_more old xs new o x h k =
    run_holds old (xs ++ (x ∷ [])) (set new o x) (o + 1) (simp length-set (omega arith))
    (front-more new o x h ∙ ap (λ (l : List ℕ). l ++ (x ∷ [])) (holds-take old xs new o k))
    (past_more old new o x (holds-drop old xs new o k))

abbrev none : Five
none = runs (replicate max_blocks 0) (replicate max_blocks 0) (replicate max_blocks 0) (replicate max_blocks 0) (replicate max_blocks 0)

pub record Gathering (s ats sizes : List ℕ) (t all : ℕ) (ends : List ℕ) (new : Five) : Type 0 where
  pub few : length (flat (found_lists s ats sizes t)) ≤ per_list * t
  pub laid : Lays (flat (found_lists s ats sizes t)) 0 all none new
  pub held : Holds (replicate max_terms 0) (ends_from 0 (found_lists s ats sizes t)) ends t

stored_more : (f : Block → ℕ) (l m o : List ℕ) (q r : ℕ) (bs cs ds : List Block) → ds ≡ bs ++ cs → Stored l m 0 q (map f bs) → Stored m o q r (map f cs) → Stored l o 0 r (map f ds)
stored_more f l m o q r bs cs ds e h k = stored_as (sym (ap (λ (x : List Block). map f x) e ∙ map-append f bs cs)) (stored-append h k)

module _ (s ats sizes : List ℕ) (n t all : ℕ) (ends : List ℕ) (new : Five) (h : Gatherable s ats sizes n) (more : t < n) (g : Gathering s ats sizes t all ends new) where
  size_few : get_or sizes t 0 ≤ per_list
  size_few = split (ltb 0 (get_or sizes t 0)) (λ e. (h.ready t more (ltb-true _ _ e)).1.few) (λ e. omega (arith, ltb-false 0 (get_or sizes t 0) e))

  place_is : (f : Block → ℕ) (l m : List ℕ) → Stored l m 0 all (map f (flat (found_lists s ats sizes t))) → all ≡ length (flat (found_lists s ats sizes t))
  place_is f l m k = omega (arith, k.past, map-length f (flat (found_lists s ats sizes t)))

  pub gathering_layable : Layable s (get_or ats t 0) (get_or sizes t 0) all new
  gathering_layable = record {
    ready = h.ready t more;
    small = h.small;
    room = omega (arith, place_is least none.los new.los g.laid.los, g.few, size_few, h.terms);
    los = stored-length g.laid.los;
    his = stored-length g.laid.his;
    tops = stored-length g.laid.tops;
    counts = stored-length g.laid.counts;
    bodies = stored-length g.laid.bodies;
  }

  pub gathering_turn : (r : ℕ) (next : Five) → Lays (blocks_at s (get_or ats t 0) (get_or sizes t 0)) all r new next → Gathering s ats sizes (t + 1) r (set ends t r) next
  gathering_turn r next k =
      let ls = found_lists s ats sizes t in
      let bs = blocks_at s (get_or ats t 0) (get_or sizes t 0) in
      let e : flat (ls ++ (bs ∷ [])) ≡ flat ls ++ bs = flat-more ls bs in
      let p : r ≡ length (flat ls ++ bs) = omega (arith, place_is least none.los new.los g.laid.los, k.los.past, map-length least bs, length-append (flat ls) bs) in
      let many : length (flat (ls ++ (bs ∷ []))) ≤ per_list * (t + 1) = omega (arith, ap length e, length-append (flat ls) bs, blocks-length s (get_or ats t 0) (get_or sizes t 0), g.few, size_few) in
      let size : length ends ≡ max_terms = omega (arith, ap length g.held.whole, length-append (ends_from 0 ls) (drop t (replicate max_terms 0)), length-drop t (replicate {A = ℕ} max_terms 0), g.held.count, h.terms) in
      let q : ends_from 0 (ls ++ (bs ∷ [])) ≡ ends_from 0 ls ++ (r ∷ []) = ends_more 0 ls bs ∙ ap (λ (x : ℕ). ends_from 0 ls ++ (x ∷ [])) (omega (arith, p)) in
      let held : Holds (replicate max_terms 0) (ends_from 0 (ls ++ (bs ∷ []))) (set ends t r) (t + 1) =
      rw q (holds_more (replicate max_terms 0) (ends_from 0 ls) ends t r (omega (arith, h.terms)) g.held) in
      rw (add-one t)
      (record {
        few = rw (add-one t) at many;
        laid = record {
          los = stored_more least none.los new.los next.los all r (flat ls) bs (flat (ls ++ (bs ∷ []))) e g.laid.los k.los;
          his = stored_more greatest none.his new.his next.his all r (flat ls) bs (flat (ls ++ (bs ∷ []))) e g.laid.his k.his;
          tops = stored_more top none.tops new.tops next.tops all r (flat ls) bs (flat (ls ++ (bs ∷ []))) e g.laid.tops k.tops;
          counts = stored_more count none.counts new.counts next.counts all r (flat ls) bs (flat (ls ++ (bs ∷ []))) e g.laid.counts k.counts;
          bodies = stored_more tag_at none.bodies new.bodies next.bodies all r (flat ls) bs (flat (ls ++ (bs ∷ []))) e g.laid.bodies k.bodies;
        };
        held = rw (add-one t) at held;
      })

lists_length : (s ats sizes : List ℕ) (n : ℕ) → length (found_lists s ats sizes n) ≡ n
lists_length s ats sizes zero = refl
lists_length s ats sizes (suc n) =
    length-append (found_lists s ats sizes n) (blocks_at s (get_or ats n 0) (get_or sizes n 0) ∷ []) ∙ omega (arith, lists_length s ats sizes n)

run-held : (f : Block → ℕ) (m : List ℕ) (r : ℕ) (bs : List Block) → length bs ≤ max_blocks → Stored (replicate max_blocks 0) m 0 r (map f bs) → Holds (replicate max_blocks 0) (map f bs) m r
run-held f m r bs h k = stored-holds (omega (arith, map-length f bs)) k

pub gathering_end : (s ats sizes : List ℕ) (n all : ℕ) (ends : List ℕ) (new : Five) → n ≤ max_terms → Gathering s ats sizes n all ends new →
    Gathered (found_lists s ats sizes n) (record { n = all; ends = ends; los = new.los; his = new.his; tops = new.tops; counts = new.counts; bodies = new.bodies })
gathering_end s ats sizes n all ends new h g =
    let bs = flat (found_lists s ats sizes n) in
    let few : length bs ≤ max_blocks = omega (arith, g.few) in
    record {
      ends = rw (lists_length s ats sizes n) g.held;
      los = run-held least new.los all bs few g.laid.los;
      his = run-held greatest new.his all bs few g.laid.his;
      tops = run-held top new.tops all bs few g.laid.tops;
      counts = run-held count new.counts all bs few g.laid.counts;
      bodies = run-held tag_at new.bodies all bs few g.laid.bodies;
    }
