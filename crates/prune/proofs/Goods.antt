-- Sound lists: what a docid scores is stored in the blocks that it meets, and is at most the ceiling. Assumes nothing.
use Prim.Native.Nat.{ℕ, ◌≤◌, ◌<◌}
use mathlib.Core.Path.{◌≡◌, refl, ◌∙◌}
use mathlib.Core.Bool.{true, false, false≢true}
use mathlib.Core.Option.{none}
use mathlib.Core.List.{List, [], ◌∷◌, ◌++◌, map}
use native.Mathlib.Omega.{arith}
use native.Mathlib.Nat.{mul-le-mul_left, one-le-mul}
use lib.Dec.{eqb}
use borrow.Author.Tests.{ne_eqb}
use Rattle.model.specs.Post.{Post, docs}
use Rattle.model.specs.Runs.{All, has}
use Rattle.model.proofs.Lists.{split, both_ways, All_map, All_append, All_front, All_rest, All_image}
use Rattle.rank.specs.Match.{stored, score_of, holds, some}
use Rattle.rank.proofs.Matches.{AllDocs, inside-last, inside_in}
use Rattle.prune.specs.Cut.{Block, Listing, meets, sees, top_at, ceiling_at}
use Rattle.prune.specs.Prune.{posted, fault_of, posts_of, terms_of, fault_in, fault_all, body_at, terms_at, fault_at, Fits, Right, Good, GoodList}

-- What is stored
stored_past : (d : ℕ) (ps qs : List Post) → All (λ p. d ≡ p.doc → ⊥) ps → stored (ps ++ qs) d ≡ stored qs d
stored_past d [] qs all = refl
stored_past d (p ∷ ps) qs all = rw (ne_eqb d p.doc all.0) (stored_past d ps qs all.1)

stored_low : (n d : ℕ) (ps : List Post) → d ≤ n → All (λ p. n < p.doc) ps → stored ps d ≡ 0
stored_low n d [] l all = refl
stored_low n d (p ∷ ps) l all = rw (ne_eqb d p.doc (omega arith)) (stored_low n d ps l all.1)

stored-front : (d : ℕ) (ps qs : List Post) → stored qs d ≡ 0 → stored (ps ++ qs) d ≡ stored ps d
stored-front d [] qs z = z
stored-front d (p ∷ ps) qs z = split (eqb d p.doc) (λ e. rw e) (λ e. rw e (stored-front d ps qs z))

stored-most : (m d : ℕ) (ps : List Post) → All (λ p. p.score ≤ m) ps → stored ps d ≤ m
stored-most m d [] all = omega arith
stored-most m d (p ∷ ps) all = split (eqb d p.doc) (λ e. rw e all.0) (λ e. rw e (stored-most m d ps all.1))

stored_some : (d : ℕ) (ps : List Post) → All (λ p. 1 ≤ p.score) ps → has d (docs ps) ≡ true → 1 ≤ stored ps d
stored_some d [] all h = absurd (false≢true h)
stored_some d (p ∷ ps) all h = split (eqb d p.doc) (λ e. rw e all.0) (λ e. rw e (stored_some d ps all.1 (rw e at h)))

has_low : (n d : ℕ) (ps : List Post) → d ≤ n → All (λ p. n < p.doc) ps → has d (docs ps) ≡ false
has_low n d [] l all = refl
has_low n d (p ∷ ps) l all = rw (ne_eqb d p.doc (omega arith)) (has_low n d ps l all.1)

has-front : (d : ℕ) (ps qs : List Post) → has d (docs qs) ≡ false → has d (docs (ps ++ qs)) ≡ has d (docs ps)
has-front d [] qs z = z
has-front d (p ∷ ps) qs z = rw (has-front d ps qs z)

has-past : (d : ℕ) (ps qs : List Post) → All (λ p. d ≡ p.doc → ⊥) ps → has d (docs (ps ++ qs)) ≡ has d (docs qs)
has-past d [] qs all = refl
has-past d (p ∷ ps) qs all = rw (ne_eqb d p.doc all.0) (has-past d ps qs all.1)

-- What holds of every posting of a sound list
pub good-posts : (P : Post → Type 0) (lim n : ℕ) (bs : List Block) → ((b : Block) (p : Post) → n < b.least → b.greatest ≤ lim → Fits b p → P p) → Good lim n bs → All P (posts_of bs)
good-posts P lim n [] f g = tt
good-posts P lim n (b ∷ bs) f g =
    All_append P (posted b.body) (posts_of bs)
    (All_map (posted b.body) (λ p w. f b p g.0.above g.0.below w) g.0.fits)
    (good-posts P lim b.greatest bs (λ c p a m w. f c p (omega (arith, g.0.above, g.0.order)) m w) g.1)

good-above : (lim n : ℕ) (bs : List Block) → Good lim n bs → All (λ p. n < p.doc) (posts_of bs)
good-above lim n bs g = good-posts (λ p. n < p.doc) lim n bs (λ b p a m w. omega (arith, w.from)) g

-- A docid that does not meet the block is not in it; one that does is in no later block
apart : (b : Block) (d : ℕ) (ps : List Post) → meets b d ≡ false → All (Fits b) ps → All (λ p. d ≡ p.doc → ⊥) ps
apart b d ps e all = All_map ps (λ p w q. both_ways (meets b d) (inside_in b.least b.greatest d (omega (arith, w.from)) (omega (arith, w.upto))) e) all

module _ (lim n d : ℕ) (b : Block) (bs : List Block) (g : Right lim n b × Good lim b.greatest bs) where
  later : meets b d ≡ true → All (λ p. b.greatest < p.doc) (posts_of bs) × (d ≤ b.greatest)
  later e = (good-above lim b.greatest bs g.1, inside-last b.least b.greatest d e)

  stored_here : meets b d ≡ true → stored (posted b.body ++ posts_of bs) d ≡ stored (posted b.body) d
  stored_here e = stored-front d (posted b.body) (posts_of bs) (stored_low b.greatest d (posts_of bs) (later e).1 (later e).0)

  has_here : meets b d ≡ true → has d (docs (posted b.body ++ posts_of bs)) ≡ has d (docs (posted b.body))
  has_here e = has-front d (posted b.body) (posts_of bs) (has_low b.greatest d (posts_of bs) (later e).1 (later e).0)

  stored_there : meets b d ≡ false → stored (posted b.body ++ posts_of bs) d ≡ stored (posts_of bs) d
  stored_there e = stored_past d (posted b.body) (posts_of bs) (apart b d (posted b.body) e g.0.fits)

  has_there : meets b d ≡ false → has d (docs (posted b.body ++ posts_of bs)) ≡ has d (docs (posts_of bs))
  has_there e = has-past d (posted b.body) (posts_of bs) (apart b d (posted b.body) e g.0.fits)

stored-met : (lim n d : ℕ) (bs : List Block) → Good lim n bs → stored (posts_of bs) d ≡ stored (posted (body_at bs d)) d
stored-met lim n d [] g = refl
stored-met lim n d (b ∷ bs) g =
    split (meets b d)
    (λ e. rw e (stored_here lim n d b bs g e))
    (λ e. rw e (stored_there lim n d b bs g e ∙ stored-met lim b.greatest d bs g.1))

has-met : (lim n d : ℕ) (bs : List Block) → Good lim n bs → has d (docs (posts_of bs)) ≡ has d (docs (posted (body_at bs d)))
has-met lim n d [] g = refl
has-met lim n d (b ∷ bs) g =
    split (meets b d)
    (λ e. rw e (has_here lim n d b bs g e))
    (λ e. rw e (has_there lim n d b bs g e ∙ has-met lim b.greatest d bs g.1))

-- so a docid is held, and scores, by the blocks that it meets
pub holds-met : (lim d : ℕ) (ls : List Listing) → All (GoodList lim) ls → holds (terms_of ls) d ≡ holds (terms_at ls d) d
holds-met lim d [] g = refl
holds-met lim d (l ∷ ls) g = cc (has-met lim 0 d l.blocks g.0.good, holds-met lim d ls g.1)

pub score-met : (lim d : ℕ) (ls : List Listing) → All (GoodList lim) ls → score_of (terms_of ls) d ≡ score_of (terms_at ls d) d
score-met lim d [] g = refl
score-met lim d (l ∷ ls) g = cc (stored-met lim 0 d l.blocks g.0.good, score-met lim d ls g.1)

-- The ceiling
stored-top : (lim n d : ℕ) (bs : List Block) → Good lim n bs → stored (posts_of bs) d ≤ top_at bs d
stored-top lim n d [] g = omega arith
stored-top lim n d (b ∷ bs) g =
    split (meets b d)
    (λ e. rw (e, stored_here lim n d b bs g e) (stored-most b.top d (posted b.body) (All_map (posted b.body) (λ p w. w.most) g.0.fits)))
    (λ e. rw (e, stored_there lim n d b bs g e) (stored-top lim b.greatest d bs g.1))

pub score-ceiling : (lim d : ℕ) (ls : List Listing) → All (GoodList lim) ls → score_of (terms_of ls) d ≤ ceiling_at ls d
score-ceiling lim d [] g = omega arith
score-ceiling lim d (l ∷ ls) g =
    omega (arith, score-ceiling lim d ls g.1, mul-le-mul_left l.weight (stored-top lim 0 d l.blocks g.0.good))

-- A docid that some list holds has a score of 1 or more
pub score-some : (lim d : ℕ) (ls : List Listing) → All (GoodList lim) ls → some (holds (terms_of ls) d) ≡ true → 1 ≤ score_of (terms_of ls) d
score-some lim d [] g h = absurd (false≢true h)
score-some lim d (l ∷ ls) g h =
    split (has d (docs (posts_of l.blocks)))
    (λ e. let s : 1 ≤ stored (posts_of l.blocks) d = stored_some d (posts_of l.blocks) (good-posts (λ p. 1 ≤ p.score) lim 0 l.blocks (λ b p a m w. w.some) g.0.good) e in
    omega (arith, one-le-mul g.0.weighs s))
    (λ e. omega (arith, score-some lim d ls g.1 (rw e at h)))

-- The docids are in range
pub good-docs : (P : ℕ → Type 0) (lim : ℕ) (ls : List Listing) → ((b : Block) (p : Post) → 0 < b.least → b.greatest ≤ lim → Fits b p → P p.doc)
    → All (GoodList lim) ls → AllDocs P (terms_of ls)
good-docs P lim [] f g = tt
good-docs P lim (l ∷ ls) f g =
    (All_image (λ (p : Post). p.doc) P (posts_of l.blocks) (good-posts (λ p. P p.doc) lim 0 l.blocks f g.0.good), good-docs P lim ls f g.1)

body-posts : (P : Post → Type 0) (bs : List Block) (d : ℕ) → All P (posts_of bs) → All P (posted (body_at bs d))
body-posts P [] d all = tt
body-posts P (b ∷ bs) d all =
    split (meets b d)
    (λ e. rw e (All_front P (posted b.body) (posts_of bs) all))
    (λ e. rw e (body-posts P bs d (All_rest P (posted b.body) (posts_of bs) all)))

pub met-docs : (lim d : ℕ) (ls : List Listing) → All (GoodList lim) ls → AllDocs (λ e. 0 < e) (terms_at ls d)
met-docs lim d [] g = tt
met-docs lim d (l ∷ ls) g =
    (All_image (λ (p : Post). p.doc) (λ e. 0 < e) (posted (body_at l.blocks d)) (body-posts (λ p. 0 < p.doc) l.blocks d (good-above lim 0 l.blocks g.0.good)), met-docs lim d ls g.1)

-- No body is wrong
body-right : (lim n d : ℕ) (bs : List Block) → Good lim n bs → fault_of (body_at bs d) ≡ none
body-right lim n d [] g = refl
body-right lim n d (b ∷ bs) g = split (meets b d) (λ e. rw e g.0.body) (λ e. rw e (body-right lim b.greatest d bs g.1))

pub met-right : (lim d : ℕ) (ls : List Listing) → All (GoodList lim) ls → fault_at ls d ≡ none
met-right lim d [] g = refl
met-right lim d (l ∷ ls) g = rw (body-right lim 0 d l.blocks g.0.good, met-right lim d ls g.1)

bodies_right : (lim n : ℕ) (bs : List Block) → Good lim n bs → fault_in bs ≡ none
bodies_right lim n [] g = refl
bodies_right lim n (b ∷ bs) g = rw (g.0.body, bodies_right lim b.greatest bs g.1)

pub all_right_lem : (lim : ℕ) (ls : List Listing) → All (GoodList lim) ls → fault_all ls ≡ none
all_right_lem lim [] g = refl
all_right_lem lim (l ∷ ls) g = rw (bodies_right lim 0 l.blocks g.0.good, all_right_lem lim ls g.1)

-- The bodies go by the blocks met
body-sees : (bs : List Block) (d e : ℕ) → map (λ b. meets b d) bs ≡ map (λ b. meets b e) bs → body_at bs d ≡ body_at bs e
body-sees [] d e q = refl
body-sees (b ∷ bs) d e q =
    let h : meets b d ≡ meets b e = cc in
    let r : map (λ b. meets b d) bs ≡ map (λ b. meets b e) bs = cc in
    rw (h, body-sees bs d e r)

pub terms-sees : (ls : List Listing) (d e : ℕ) → sees ls d ≡ sees ls e → terms_at ls d ≡ terms_at ls e
terms-sees [] d e q = refl
terms-sees (l ∷ ls) d e q =
    let h : map (λ b. meets b d) l.blocks ≡ map (λ b. meets b e) l.blocks = cc in
    let r : sees ls d ≡ sees ls e = cc in
    rw (body-sees l.blocks d e h, terms-sees ls d e r)
