-- The exhaustive ranker's answer, by what the query's reader and the walk told. Assumes nothing.
use Prim.Native.Nat.{ℕ, zero, suc, ◌-◌, ◌≤◌, ◌<◌}
use mathlib.Core.Path.{◌≡◌, ap, subst, ◌∙◌}
use mathlib.Core.Option.{some}
use mathlib.Core.List.{List, ◌++◌}
use native.Mathlib.Omega.{arith}
use lib.ListN.{length, take, drop, length-map}
use borrow.Author.Tests.{le-leb, lt-leb}
use Rattle.model.specs.Limits.{max_terms, max_k}
use Rattle.model.specs.Outcome.{Outcome, refused, done}
use Rattle.model.specs.Runs.{Bytes}
use Rattle.model.proofs.Storing.{holds-take}
use Rattle.query.specs.Query.{Question, asked, weights_of, terms_of as asked_terms}
use Rattle.query.specs.Answers.{Carries, zeros as no_terms}
use Rattle.query.specs.declared.read.Query.{Query}
use Rattle.query.proofs.Accepted.{accepted_in_range}
use Rattle.shelf.specs.Walk.{Listing, walk}
use Rattle.lookup.specs.Gather.{Located}
use Rattle.lookup.specs.declared.gather.Found.{Found}
use Rattle.rank.specs.Rank.{Hit}
use Rattle.rank.specs.declared.keep.Kept.{Kept}
use Rattle.model.specs.declared.refusal.Refusal.{Refusal}
use Rattle.std.specs.Prelude.{Result}
use Rattle.rank.specs.Match.{any_list}
use Rattle.prune.specs.Cut as prune
use Rattle.prune.specs.Prune.{fault_all, exhaustive}
use Rattle.prune.proofs.Rooms.{Within, then_within, judged-within, exhaustive-within}
use Rattle.exhaustive.specs.Lists.{listings_of}
use Rattle.exhaustive.specs.Exhaustive.{rank_all, Answers}
use Rattle.exhaustive.specs.Merge.{Mergeable, lists_from}
use Rattle.exhaustive.proofs.Founds.{zeros, ats_of, counts_of, blanks, all-walked, all-addressed, all-lists, blank-ranked}

pub answers_as : {o p : Outcome (List Hit)} (r : Result Kept Refusal) → o ≡ p → Answers o r → Answers p r
answers_as {o} {p} r e a = subst (λ (x : Outcome (List Hit)). Answers x r) e a

pub fault_refuses : (k : ℕ) (ls : List prune.Listing) (o : ℕ) → fault_all ls ≡ some o → refused 8 o ≡ exhaustive any_list k ls
fault_refuses k ls o e = rw e

-- ---- the answer
module _ (q s : List ℕ) (rows : ℕ) where
  pub all_asked : (n at : ℕ) → asked q ≡ refused n at → refused n at ≡ rank_all q s rows
  unfolding rank_all
  all_asked n at e = rw e

  module _ (x : Question) (a : asked q ≡ done x) where
    pub all-walk : (n at : ℕ) → walk s ≡ refused n at → refused n at ≡ rank_all q s rows
    unfolding rank_all
    all-walk n at e = rw (a, e)

    module _ (ls : List Listing) (w : walk s ≡ done ls) where
      pub all-rows : rows < x.k → refused 9 0 ≡ rank_all q s rows
      unfolding rank_all
      all-rows l = rw (a, w, lt-leb x.k rows l)

      pub all-ranked : x.k ≤ rows → exhaustive any_list x.k (listings_of x.terms ls) ≡ rank_all q s rows
      unfolding rank_all
      all-ranked l = rw (a, w, le-leb x.k rows l)

-- it has no more hits than there are rows
pub rank-within : (q s : List ℕ) (rows : ℕ) → Within length rows (rank_all q s rows)
unfolding rank_all
rank-within q s rows =
    then_within length rows (asked q) _ (λ x. then_within length rows (walk s) _ (λ ls.
    judged-within length x.k rows _ (exhaustive-within any_list x.k (listings_of x.terms ls))))

-- ---- the arrays that are handed on
drop-zeros : (n m : ℕ) → n ≤ m → drop n (zeros m) ≡ zeros (m - n)
drop-zeros zero m l = let e : m - 0 ≡ m = omega arith in rw e
drop-zeros (suc n) zero l = absurd (omega arith)
drop-zeros (suc n) (suc m) l = let e : suc m - suc n ≡ m - n = omega arith in rw e (drop-zeros n m (omega arith))

pub carried_few : (q : List ℕ) (x : Question) (c : Query) → Bytes q → asked q ≡ done x → Carries x c → c.n ≤ max_terms
carried_few q x c b a h = omega (arith, (accepted_in_range q x b a).few, h.terms.count, length-map x.terms (λ y. y.term))

module _ (s : List ℕ) (x : Question) (c : Query) (h : Carries x c) (n : c.n ≤ max_terms) (ls : List Listing) (w : walk s ≡ done ls) (r : Found) (f : Located c.terms c.n ls r) where
  asked-terms : take c.n c.terms ≡ asked_terms x.terms
  asked-terms = holds-take no_terms (asked_terms x.terms) c.terms c.n h.terms

  ats_are : r.ats ≡ ats_of ls (max_terms - c.n) (asked_terms x.terms)
  ats_are = f.ats ∙ rw asked-terms

  counts_are : r.counts ≡ counts_of ls (max_terms - c.n) (asked_terms x.terms)
  counts_are = f.counts ∙ rw asked-terms

  weights_are : c.weights ≡ weights_of x.terms ++ zeros (max_terms - c.n)
  weights_are = h.weights.whole ∙ rw (drop-zeros c.n max_terms n)

  pub found_mergeable : (k : ℕ) → 0 < k → k ≤ max_k → Mergeable s r.ats r.counts k
  found_mergeable k l m =
      rw (ats_are, counts_are)
      (record { walked = all-walked s ls w (max_terms - c.n) (asked_terms x.terms); addressed = all-addressed s ls w (max_terms - c.n) (asked_terms x.terms); least = l; most = m })

  -- past the terms asked there are lists without blocks
  pub found-lists : lists_from s c.weights r.ats r.counts ≡ listings_of x.terms ls ++ blanks (max_terms - c.n)
  found-lists = rw (ats_are, counts_are, weights_are) (all-lists s ls w (max_terms - c.n) x.terms)

  pub found-same : (k : ℕ) → exhaustive any_list k (lists_from s c.weights r.ats r.counts) ≡ exhaustive any_list k (listings_of x.terms ls)
  found-same k = ap (exhaustive any_list k) found-lists ∙ blank-ranked k (max_terms - c.n) (listings_of x.terms ls)
