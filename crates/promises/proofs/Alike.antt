-- "a search answers alike": it sees a shelf through its walk, and a list through the summaries and the postings of its blocks, which a conversion
-- leaves as they were. Assumes nothing.
use Prim.Native.Nat.{ℕ}
use mathlib.Core.Path.{◌≡◌, refl, ap, ap₂}
use mathlib.Core.Bool.{cond}
use mathlib.Core.List.{List, [], ◌∷◌, map}
use lib.Dec.{leb}
use lib.ListN.{length}
use Rattle.model.specs.Outcome.{Outcome, refused, done, and_then}
use Rattle.model.specs.Post.{Post}
use Rattle.shelf.specs.Walk as shelf
use Rattle.shelf.specs.Walk.{walk}
use Rattle.shelf.proofs.Sounds.{sound-walk}
use Rattle.lookup.specs.Gather.{term_blocks}
use Rattle.convert.specs.Convert.{Turned}
use Rattle.convert.proofs.Alike.{Alike, AllAlike, turned-alike}
use Rattle.convert.proofs.Leaves.{converted-leaves}
use Rattle.query.specs.Query.{Asked, Question, asked}
use Rattle.rank.specs.Match.{any_list}
use Rattle.prune.specs.Cut.{Block, Listing}
use Rattle.prune.specs.Prune.{exhaustive}
use Rattle.exhaustive.specs.Lists.{body_of, block_of, listings_of}
use Rattle.exhaustive.specs.Exhaustive.{rank_all}
use Rattle.pruned.specs.Pruned.{Sought, fitting, sought, Answer, answer, searched}
use Rattle.promises.specs.Edits.{Converting}

-- ---- blocks and lists as a search sees them

block-is : (b c : Block) → b.least ≡ c.least → b.greatest ≡ c.greatest → b.top ≡ c.top → b.body ≡ c.body → b ≡ c
block-is b c l g t o = λ i. record { least = l i; greatest = g i; top = t i; body = o i }

block-seen : (b c : shelf.Block) → Alike b c → block_of b ≡ block_of c
block-seen b c a =
    let body : body_of b ≡ body_of c = rw (a.right, a.right') (ap (λ (ps : List Post). done ps) a.run) in
    block-is (block_of b) (block_of c) a.least a.greatest a.top body

blocks-seen : (bs cs : List shelf.Block) → AllAlike bs cs → map block_of bs ≡ map block_of cs
blocks-seen [] [] a = refl
blocks-seen [] (c ∷ cs) a = absurd a
blocks-seen (b ∷ bs) [] a = absurd a
blocks-seen (b ∷ bs) (c ∷ cs) a = ap₂ (λ (x : Block) (xs : List Block). x ∷ xs) (block-seen b c a.0) (blocks-seen bs cs a.1)

lists-seen : (new old : List shelf.Listing) → ((u : ℕ) → AllAlike (term_blocks u new) (term_blocks u old)) → (xs : List Asked) → listings_of xs new ≡ listings_of xs old
lists-seen new old a [] = refl
lists-seen new old a (x ∷ xs) =
    ap₂ (λ (bs : List Block) (ls : List Listing). record { weight = x.weight; blocks = bs } ∷ ls)
    (blocks-seen (term_blocks x.term new) (term_blocks x.term old) (a x.term))
    (lists-seen new old a xs)

-- ---- a conversion that is accepted, on any sound shelf

module _ (t : ℕ) (s : List ℕ) (old : List shelf.Listing) (v : List ℕ) (c : Converting t s old v) where
  leaves : Turned t s old v
  leaves = converted-leaves t s old c.room v c.shelf-bytes c.sound c.accepted

  walks_old : walk s ≡ done old
  walks_old = (sound-walk s old c.sound).0

  walks_new : walk v ≡ done leaves.new
  walks_new = (sound-walk v leaves.new leaves.sound).0

  same_lists : (xs : List Asked) → listings_of xs leaves.new ≡ listings_of xs old
  same_lists = lists-seen leaves.new old (turned-alike t s old v c.shelf-bytes c.sound leaves)

  -- whatever is made of a query and of its lists as a search sees them
  made_alike : {A : Type 0} (f : Question → List Listing → Outcome A) (o : Outcome Question) →
      and_then o (λ x. and_then (walk v) (λ ls. f x (listings_of x.terms ls))) ≡ and_then o (λ x. and_then (walk s) (λ ls. f x (listings_of x.terms ls)))
  made_alike f (refused n at) = refl
  made_alike f (done x) = rw (walks_new, walks_old, same_lists x.terms)

  -- the exhaustive ranker
  ranks-alike : (q : List ℕ) (rows : ℕ) → rank_all q v rows ≡ rank_all q s rows
  unfolding rank_all
  ranks-alike q rows = made_alike (λ (x : Question) (ls : List Listing). cond (leb x.k rows) (exhaustive any_list x.k ls) (refused 9 0)) (asked q)

  -- the pruned ranker: what is searched, or the refusal before the search; so the whole answer
  sought-alike : (q : List ℕ) (rows a b c : ℕ) → sought q v rows a b c ≡ sought q s rows a b c
  sought-alike q rows a b c = made_alike (λ (x : Question) (ls : List Listing). cond (leb x.k rows) (fitting x.k ls a b c) (refused 9 0)) (asked q)

  searches_alike : (q : List ℕ) (rows : ℕ) (fs cs ms : List ℕ) → searched q v rows fs cs ms ≡ searched q s rows fs cs ms
  unfolding searched
  searches_alike q rows fs cs ms = ap {B = Answer} (λ (o : Outcome Sought). answer o fs cs ms) (sought-alike q rows (length fs) (length cs) (length ms))

  pub answers-alike : (q : List ℕ) (rows : ℕ) (fs cs ms : List ℕ) → (searched q v rows fs cs ms ≡ searched q s rows fs cs ms) × (rank_all q v rows ≡ rank_all q s rows)
  answers-alike q rows fs cs ms = (searches_alike q rows fs cs ms, ranks-alike q rows)
