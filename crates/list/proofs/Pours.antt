-- Loops over a list's blocks: counting its postings, and pouring them into two runs. Assumes nothing.
use Prim.Native.Nat.{ℕ, ◌+◌, ◌-◌, ◌*◌, ◌≤◌}
use native.Mathlib.Omega.{arith}
use mathlib.Core.Path.{◌≡◌, refl, ap, ◌∙◌}
use mathlib.Core.Bool.{Bool, true}
use mathlib.Core.List.{List, [], ◌∷◌, ◌++◌, map}
use lib.ListN.{length, take, drop, length-append}
use lib.Seq.{sets, length-sets}
use Rattle.model.specs.Post.{Post, docs, scores}
use Rattle.model.specs.Runs.{Stored}
use Rattle.model.proofs.Lists.{split, map-length}
use Rattle.model.proofs.Storing.{Rest, rest-start, rest-turn, rest_end}
use Rattle.block.specs.Body.{body_run, right_body, ReadsInto}
use Rattle.block.specs.declared.summary.Summary.{Summary}
use Rattle.block.proofs.Contents.{right-run}
use Rattle.shelf.specs.Walk.{Block, blocks_at, posts_of}
use Rattle.shelf.specs.Check.{bad_body}
use Rattle.shelf.specs.Answers.{Ready}
use Rattle.shelf.specs.Blocks.{reading_of, blocks_left, Rests, Finds}
use Rattle.shelf.specs.declared.walk.Place.{Place}
use Rattle.std.specs.Prelude.{Some, None}
use Rattle.shelf.specs.declared.blocks.Reading.{Reading}
use Rattle.shelf.proofs.Readings.{start-rests, start_left_lem}
use Rattle.list.specs.Read.{count_of}
use Rattle.list.specs.Fill.{Fillable, Filled}

-- ---- counting

-- n postings were counted, in the blocks before the reading place r
pub record Counting (s : List ℕ) (all : List Block) (r : Reading) (n : ℕ) : Type 0 where
  pub rests : Rests s r
  pub total : count_of all ≡ n + count_of (blocks_left s r)
  pub small : n + 255 * r.left ≤ 65025

pub count-start : (s : List ℕ) (p : Place) (r : Reading) → Ready s p → p.count ≤ 255 → r ≡ reading_of p → Counting s (blocks_left s r) r 0
count-start s p r h c e =
    let l : r.left ≡ p.count = ap (λ (x : Reading). x.left) e in
    record { rests = rw e (start-rests s p h); total = omega arith; small = omega arith }

pub count_turn : (s : List ℕ) (all : List Block) (r : Reading) (n : ℕ) (b : Block) (v e : ℕ) (next : Reading) (m : Summary) → b.sum ≡ m → m.count ≤ 255 →
    Finds s r b v e next → Counting s all r n → Counting s all next (n + m.count)
count_turn s all r n b v e next m q l f c =
    let k : count_of (blocks_left s r) ≡ b.sum.count + count_of (blocks_left s next) = ap count_of f.left in
    let j : b.sum.count ≡ m.count = ap (λ (x : Summary). x.count) q in
    record { rests = f.rests; total = omega (arith, c.total); small = omega (arith, c.small, f.fewer) }

pub count-done : (s : List ℕ) (p : Place) (b r : Reading) (n : ℕ) → b ≡ reading_of p → blocks_left s r ≡ [] → Counting s (blocks_left s b) r n → n ≡ count_of (blocks_at s p.at p.count)
count-done s p b r n q e c =
    let same : blocks_left s b ≡ blocks_at s p.at p.count = rw q (start_left_lem s p) in
    omega (arith, c.total, ap count_of e, ap count_of same)

-- ---- right bodies

-- the first of some blocks with no wrong body: it is right, and none of the others is wrong
pub right-more : (b : Block) (bs : List Block) → bad_body (b ∷ bs) ≡ None → (right_body b.sum b.body ≡ true) × (bad_body bs ≡ None)
right-more b bs e =
    split (right_body b.sum b.body)
    (λ t. (t, rw t at e))
    (λ t. let g : Some b.body_at ≡ None = rw t at e in let z : ◌≡◌ {A = ℕ} 0 1 = cc in absurd (omega arith))

-- its postings are those that are read into a run, as many as its summary says
pub right-posts : (b : Block) (bs : List Block) → right_body b.sum b.body ≡ true →
    (posts_of (b ∷ bs) ≡ body_run b.sum b.body ++ posts_of bs) × (length (body_run b.sum b.body) ≡ b.sum.count)
right-posts b bs t =
    let r = right-run b.sum b.body t in
    (rw r.1, r.2)

pub right-count : (bs : List Block) → bad_body bs ≡ None → length (posts_of bs) ≡ count_of bs
right-count [] e = refl
right-count (b ∷ bs) e =
    let t = right-more b bs e in
    let p = right-posts b bs t.0 in
    omega (arith, ap length p.0, length-append (body_run b.sum b.body) (posts_of bs), p.1, right-count bs t.1)

-- ---- pouring

map-front : {A : Type 0} (f : Post → A) (xs ys : List Post) → map f (xs ++ ys) ≡ map f xs ++ map f ys
map-front f [] ys = refl
map-front {A} f (x ∷ xs) ys = ap {B = List A} (λ t. f x ∷ t) (map-front f xs ys)

-- the blocks before r were poured: i postings stand at the front of both runs, and those of the blocks left are still to come
pub record Pouring (s : List ℕ) (all : List Block) (ds₀ ss₀ ds ss : List ℕ) (r : Reading) (i : ℕ) : Type 0 where
  pub rests : Rests s r
  pub right : bad_body (blocks_left s r) ≡ None
  pub docids : Rest ds₀ ds 0 i (docs (posts_of all)) (docs (posts_of (blocks_left s r)))
  pub scored : Rest ss₀ ss 0 i (scores (posts_of all)) (scores (posts_of (blocks_left s r)))
  pub roomy : i + count_of (blocks_left s r) ≤ length ds
  pub wide : i + count_of (blocks_left s r) ≤ length ss
  pub small : i + 255 * r.left ≤ 65025

pub pour_start : (s : List ℕ) (p : Place) (r : Reading) (ds ss : List ℕ) → Fillable s p (length ds) (length ss) → p.count ≤ 255 → r ≡ reading_of p → Pouring s (blocks_left s r) ds ss ds ss r 0
pour_start s p r ds ss h few e =
    let l : r.left ≡ p.count = ap (λ (x : Reading). x.left) e in
    let same : blocks_left s r ≡ blocks_at s p.at p.count = rw e (start_left_lem s p) in
    let n : count_of (blocks_left s r) ≡ count_of (blocks_at s p.at p.count) = ap count_of same in
    record {
      rests = rw e (start-rests s p h.ready);
      right = rw same h.right;
      docids = rest-start ds 0 (docs (posts_of (blocks_left s r)));
      scored = rest-start ss 0 (scores (posts_of (blocks_left s r)));
      roomy = omega (arith, h.roomy);
      wide = omega (arith, h.wide);
      small = omega arith;
    }

module _ (s : List ℕ) (all : List Block) (ds₀ ss₀ ds ss : List ℕ) (r : Reading) (i : ℕ) (b : Block) (v e : ℕ) (next : Reading) (m : Summary) (q : b.sum ≡ m) (few : m.count ≤ 255) (f : Finds s r b v e next) (c : Pouring s all ds₀ ss₀ ds ss r i) where
  pub pour_room : (i + m.count ≤ length ds) × (i + m.count ≤ length ss)
  pour_room =
      let k : count_of (blocks_left s r) ≡ b.sum.count + count_of (blocks_left s next) = ap count_of f.left in
      let j : b.sum.count ≡ m.count = ap (λ (x : Summary). x.count) q in
      (omega (arith, c.roomy), omega (arith, c.wide))

  pub pour_turn : (ds' ss' : List ℕ) (t : Bool) → ReadsInto m (take (e - v) (drop v s)) i ds ss ds' ss' t → Pouring s all ds₀ ss₀ ds' ss' next (i + m.count)
  pour_turn ds' ss' t w =
      let bad : bad_body (b ∷ blocks_left s next) ≡ None = rw f.left at c.right in
      let ok = right-more b (blocks_left s next) bad in
      let posts = right-posts b (blocks_left s next) ok.0 in
      let run = body_run b.sum b.body in
      let same : body_run m (take (e - v) (drop v s)) ≡ run = rw (q, f.body) in
      let count : length run ≡ m.count = posts.1 ∙ ap (λ (x : Summary). x.count) q in
      let all_left : posts_of (blocks_left s r) ≡ run ++ posts_of (blocks_left s next) = ap posts_of f.left ∙ posts.0 in
      let k : count_of (blocks_left s r) ≡ b.sum.count + count_of (blocks_left s next) = ap count_of f.left in
      let j : b.sum.count ≡ m.count = ap (λ (x : Summary). x.count) q in
      let sd : Stored ds ds' i (i + m.count) (docs run) = record { past = omega (arith, count, map-length (λ (p : Post). p.doc) run); whole = w.docids ∙ ap (λ (l : List Post). sets ds i (docs l)) same } in
      let sw : Stored ss ss' i (i + m.count) (scores run) = record { past = omega (arith, count, map-length (λ (p : Post). p.score) run); whole = w.scored ∙ ap (λ (l : List Post). sets ss i (scores l)) same } in
      record {
        rests = f.rests;
        right = ok.1;
        docids = rest-turn (docs run) (docs (posts_of (blocks_left s next))) (ap docs all_left ∙ map-front (λ (p : Post). p.doc) run (posts_of (blocks_left s next))) c.docids sd;
        scored = rest-turn (scores run) (scores (posts_of (blocks_left s next))) (ap scores all_left ∙ map-front (λ (p : Post). p.score) run (posts_of (blocks_left s next))) c.scored sw;
        roomy = omega (arith, c.roomy, ap length w.docids, length-sets ds i (docs (body_run m (take (e - v) (drop v s)))));
        wide = omega (arith, c.wide, ap length w.scored, length-sets ss i (scores (body_run m (take (e - v) (drop v s)))));
        small = omega (arith, c.small, f.fewer);
      }

pub pour_done : (s : List ℕ) (p : Place) (b : Reading) (ds₀ ss₀ ds ss : List ℕ) (r : Reading) (i : ℕ) → b ≡ reading_of p → blocks_left s r ≡ [] →
    Pouring s (blocks_left s b) ds₀ ss₀ ds ss r i → Filled s p ds₀ ss₀ ds ss i
pour_done s p b ds₀ ss₀ ds ss r i q e c =
    let same : blocks_left s b ≡ blocks_at s p.at p.count = rw q (start_left_lem s p) in
    record {
      docids = rw same at (rest_end (ap (λ (x : List Block). docs (posts_of x)) e) c.docids);
      scored = rw same at (rest_end (ap (λ (x : List Block). scores (posts_of x)) e) c.scored);
    }
