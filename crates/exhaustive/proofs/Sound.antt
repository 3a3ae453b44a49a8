-- On a sound shelf an accepted query with rows enough gets the ranking: the first k matches of its lists' postings. Assumes nothing.
use Prim.Native.Nat.{ℕ, ◌≤◌}
use mathlib.Core.Path.{◌≡◌, refl}
use mathlib.Core.Option.{none}
use mathlib.Core.List.{List, [], ◌∷◌, map}
use native.Mathlib.Omega.{arith}
use borrow.Author.Tests.{le-leb}
use Rattle.model.specs.Outcome.{done}
use Rattle.model.specs.Runs.{All}
use Rattle.model.proofs.Lists.{split}
use Rattle.block.specs.Body.{right_body}
use Rattle.block.proofs.Contents.{right-run}
use Rattle.shelf.specs.Walk as shelf
use Rattle.shelf.specs.Check.{bad_body, bad_lists, checked}
use Rattle.std.specs.Prelude.{Some, None}
use Rattle.shelf.proofs.Sounds.{or_none, sound-walk}
use Rattle.lookup.specs.Gather.{term_blocks}
use Rattle.lookup.proofs.Stands.{term-has}
use Rattle.query.specs.Query.{Asked, Question, asked}
use Rattle.rank.specs.Rank.{ranking}
use Rattle.rank.specs.Match.{any_list, hits_of}
use Rattle.prune.specs.Prune.{posts_of, terms_of, fault_in, fault_all}
use Rattle.exhaustive.specs.Lists.{block_of, listings_of, term_on}
use Rattle.exhaustive.specs.Exhaustive.{rank_all}

right-blocks : (bs : List shelf.Block) → bad_body bs ≡ None → (posts_of (map block_of bs) ≡ shelf.posts_of bs) × (fault_in (map block_of bs) ≡ none)
right-blocks [] e = (refl, refl)
right-blocks (b ∷ bs) e =
    split (right_body b.sum b.body)
    (λ r. let ih = right-blocks bs (rw r at e) in rw (r, (right-run b.sum b.body r).1) (rw ih.0, ih.1))
    (λ r. let f : Some b.body_at ≡ None = rw r at e in let z : ◌≡◌ {A = ℕ} 0 1 = cc in absurd (omega arith))

all_right_lem : (ls : List shelf.Listing) → bad_lists ls ≡ None → All (λ (l : shelf.Listing). bad_body l.blocks ≡ None) ls
all_right_lem [] e = tt
all_right_lem (l ∷ ls) e = let o = or_none (bad_body l.blocks) (bad_lists ls) e in (o.0, all_right_lem ls o.1)

term-right : (ls : List shelf.Listing) → bad_lists ls ≡ None → (t : ℕ) → bad_body (term_blocks t ls) ≡ None
term-right ls e t = term-has (λ (l : shelf.Listing). bad_body l.blocks ≡ None) refl t ls (all_right_lem ls e)

-- the query's lists have the postings that the shelf holds for their terms, and no fault
pub lists-right : (ls : List shelf.Listing) → bad_lists ls ≡ None → (xs : List Asked) → (terms_of (listings_of xs ls) ≡ map (term_on ls) xs) × (fault_all (listings_of xs ls) ≡ none)
lists-right ls e [] = (refl, refl)
lists-right ls e (x ∷ xs) =
    let r = right-blocks (term_blocks x.term ls) (term-right ls e x.term) in
    let ih = lists-right ls e xs in
    (rw (r.0, ih.0), rw (r.1, ih.1))

pub sound-ranking : (q s : List ℕ) (rows : ℕ) (x : Question) (ls : List shelf.Listing) → checked s ≡ done ls → asked q ≡ done x → x.k ≤ rows
    → rank_all q s rows ≡ done (ranking x.k (hits_of any_list (map (term_on ls) x.terms)))
unfolding rank_all
sound-ranking q s rows x ls e a l =
    let w = sound-walk s ls e in
    let r = lists-right ls w.1 x.terms in
    rw (a, w.0, le-leb x.k rows l, r.1, r.0)
