-- A search for k hits, exhaustive or pruned, gives at most k; and where k is judged against the rows, at most as many as there are rows. Assumes nothing.
use Prim.Native.Nat.{ℕ, ◌≤◌}
use native.Mathlib.Omega.{arith}
use mathlib.Core.Bool.{cond}
use mathlib.Core.Option.{Option, none, some}
use mathlib.Core.List.{List, [], ◌∷◌}
use lib.Dec.{leb}
use lib.ListN.{length, length-take}
use borrow.Author.Tests.{leb-true}
use Rattle.model.specs.Outcome.{Outcome, refused, done, and_then}
use Rattle.model.proofs.Lists.{split}
use Rattle.rank.specs.Rank.{Hit, ranking, keep, keeps}
use Rattle.rank.specs.Match.{Rule, hits_of}
use Rattle.prune.specs.Cut.{Listing}
use Rattle.prune.specs.Search.{Span, opens, unless, step, search_from}
use Rattle.prune.specs.Prune.{Bar, fault_all, terms_of, exhaustive, spans, pruned}

-- what is done, if anything, has a size of at most `rows`
abbrev pub Within : {A : Type 0} → (A → ℕ) → ℕ → Outcome A → Type 0
Within size rows (refused n a) = Unit {0}
Within size rows (done x) = size x ≤ rows

pub within_more : {A : Type 0} (size : A → ℕ) (k rows : ℕ) (o : Outcome A) → k ≤ rows → Within size k o → Within size rows o
within_more size k rows (refused n a) l h = tt
within_more size k rows (done x) l h = omega arith

pub then_within : {A B : Type 0} (size : B → ℕ) (rows : ℕ) (o : Outcome A) (f : A → Outcome B) → ((x : A) → Within size rows (f x)) → Within size rows (and_then o f)
then_within size rows (refused n a) f h = tt
then_within size rows (done x) f h = h x

-- "9: hit rows are fewer than k", so what is answered has a row for each hit
pub judged-within : {A : Type 0} (size : A → ℕ) (k rows : ℕ) (o : Outcome A) → Within size k o → Within size rows (cond (leb k rows) o (refused 9 0))
judged-within size k rows o h =
    split (leb k rows)
    (λ e. rw e (within_more size k rows o (leb-true k rows e) h))
    (λ e. rw e tt)

-- ---- the exhaustive search

unless-within : (k : ℕ) (fault : Option ℕ) (hs : List Hit) → length hs ≤ k → Within length k (unless fault hs)
unless-within k none hs l = l
unless-within k (some a) hs l = tt

pub exhaustive-within : (m : Rule) (k : ℕ) (ls : List Listing) → Within length k (exhaustive m k ls)
exhaustive-within m k ls = unless-within k (fault_all ls) (ranking k (hits_of m (terms_of ls))) (rw length-take (omega arith))

-- ---- the pruned search

keeps-few : (k : ℕ) (kept hs : List Hit) → length kept ≤ k → length (keeps k kept hs) ≤ k
keeps-few k kept [] l = l
keeps-few k kept (h ∷ hs) l = keeps-few k (keep k kept h) hs (rw length-take (omega arith))

step-within : (k : ℕ) (now : Outcome (List Hit)) (s : Span) → Within length k now → Within length k (step k now s)
step-within k (refused n a) s h = tt
step-within k (done kept) s h =
    split (opens k kept s)
    (λ e. rw e (unless-within k s.fault (keeps k kept s.hits) (keeps-few k kept s.hits h)))
    (λ e. rw e h)

spans-within : (k : ℕ) (now : Outcome (List Hit)) (ss : List Span) → Within length k now → Within length k (search_from k now ss)
spans-within k now [] h = h
spans-within k now (s ∷ ss) h = spans-within k (step k now s) ss (step-within k now s h)

pub pruned-within : (m : Rule) (bar : Bar) (lim k : ℕ) (ls : List Listing) → Within length k (pruned m bar lim k ls)
pruned-within m bar lim k ls = spans-within k (done []) (spans m bar lim ls) (omega arith)
