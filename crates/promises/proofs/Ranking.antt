-- Demand 2, the ranking: "On a sound shelf a query without fault, with room enough, gets exactly the exhaustive ranking of source document 003 by
-- summed weight times score: higher first, lower sheet number first on a tie, the best k or all there are." Assumes nothing.
use Prim.Native.Nat.{ℕ, ◌≤◌, ◌<◌}
use native.Mathlib.Omega.{arith}
use mathlib.Core.Path.{◌≡◌, ap, subst, ◌∙◌}
use mathlib.Core.List.{List}
use lib.ListN.{length}
use borrow.Author.Tests.{le-leb}
use Rattle.model.specs.Limits.{max_docid}
use Rattle.model.specs.Outcome.{Outcome, done}
use Rattle.model.specs.Post.{docs, Rising}
use Rattle.shelf.specs.Walk.{Listing}
use Rattle.shelf.proofs.Sounds.{sound-walk}
use Rattle.query.specs.Query.{Question}
use Rattle.query.specs.Range.{Once}
use Rattle.rank.specs.Rank.{ranking}
use Rattle.rank.specs.Match.{Term, any_list, matches, hits_of}
use Rattle.rank.proofs.Matches.{matches_asc, hits-rising}
use Rattle.prune.specs.Prune.{never, terms_of}
use Rattle.prune.proofs.Goods.{good-docs}
use Rattle.prune.proofs.Prunes.{pruned-exhaustive, never_barring}
use Rattle.exhaustive.specs.Exhaustive.{rank_all}
use Rattle.exhaustive.proofs.Sound.{sound-ranking}
use Rattle.exhaustive.proofs.Alls.{all-ranked}
use Rattle.pruned.specs.Pruned.{Sought, Answer, sought, answer, searched}
use Rattle.promises.specs.Served.{lists_for, interval_count, matches_for, Asks, Room}
use Rattle.promises.proofs.Goods.{good-lists, terms-held}
use Rattle.promises.proofs.Ranks.{ranking-once}

module _ (q s : List ℕ) (x : Question) (ls : List Listing) (a : Asks q s x ls) where
  -- the exhaustive ranker, which needs only rows
  pub ranks-all : (rows : ℕ) → x.k ≤ rows → rank_all q s rows ≡ done (ranking x.k (matches_for x ls))
  ranks-all rows l = sound-ranking q s rows x ls a.sound a.faultless l

  matches-rise : Rising 0 (matches_for x ls)
  matches-rise =
      let held = terms_of (lists_for x ls) in
      let docids = good-docs (λ d. 0 < d) max_docid (lists_for x ls) (λ b p a u w. omega (arith, w.from)) (good-lists q s x ls a) in
      subst (λ (ts : List Term). Rising 0 (hits_of any_list ts)) (terms-held q s x ls a) (hits-rising 0 held (matches any_list held) (matches_asc any_list held docids))

  -- so none stands in the ranking twice
  pub lists-once : Once (docs (ranking x.k (matches_for x ls)))
  lists-once = ranking-once x.k (matches_for x ls) matches-rise

  module _ (rows : ℕ) (fs cs ms : List ℕ) (r : Room x ls rows fs cs ms) where
    -- nothing is refused before the search
    passes : sought q s rows (length fs) (length cs) (length ms) ≡ done (record { k = x.k; lists = lists_for x ls })
    passes =
        rw (
          a.faultless,
          (sound-walk s ls a.sound).0,
          le-leb x.k rows r.hits,
          le-leb (interval_count x ls) (length fs) r.firsts,
          le-leb (interval_count x ls) (length cs) r.ceilings,
          le-leb (interval_count x ls) (length ms) r.marks,
        )

    -- so the answer is that of the search over the query's lists
    pub answers : searched q s rows fs cs ms ≡ answer (done (record { k = x.k; lists = lists_for x ls })) fs cs ms
    unfolding searched
    answers = ap {B = Answer} (λ (o : Outcome Sought). answer o fs cs ms) passes

    -- the pruned ranker and the exhaustive one give the same
    pub same_as_all : (searched q s rows fs cs ms).outcome ≡ rank_all q s rows
    same_as_all =
        ap (λ (w : Answer). w.outcome) answers
        ∙ pruned-exhaustive any_list never max_docid (lists_for x ls) (good-lists q s x ls a) (never_barring any_list max_docid (lists_for x ls)) x.k
        ∙ all-ranked q s rows x a.faultless ls (sound-walk s ls a.sound).0 r.hits

    pub gets_the_ranking : (searched q s rows fs cs ms).outcome ≡ done (ranking x.k (matches_for x ls))
    gets_the_ranking = same_as_all ∙ ranks-all rows r.hits
