-- The incident: "A regulator erratum was raised to the top score while its block kept the old greatest score. The block stayed shut." After an
-- accepted set, a search in which the sheet ranks among the first k shows it, with its new score. Assumes nothing.
use Prim.Native.Nat.{ℕ, ◌*◌, ◌≤◌}
use native.Mathlib.Omega.{arith}
use native.Mathlib.Nat.{one-le-mul}
use mathlib.Core.Path.{◌≡◌, refl, sym, ap, ◌∙◌}
use mathlib.Core.Bool.{true, false, false≢true, cond}
use mathlib.Core.Logic.{inl, inr}
use mathlib.Core.List.{List, [], ◌∷◌, map}
use borrow.Author.Tests.{eqb-true, eqb-false, eq-eqb, ne_eqb}
use lib.Dec.{eqb}
use Rattle.model.specs.Outcome.{done}
use Rattle.model.specs.Post.{Post, docs}
use Rattle.model.specs.Runs.{has}
use Rattle.model.proofs.Lists.{split, both_ways}
use Rattle.shelf.specs.Walk.{Listing, posts_of}
use Rattle.lookup.specs.Gather.{term_blocks}
use Rattle.list.specs.Write.{Word, words_of}
use Rattle.change.specs.Edits.{Set, score_in, stored as stored_in}
use Rattle.edit.proofs.Changes.{set_ranged}
use Rattle.edit.proofs.Sounds.{edited-done}
use Rattle.query.specs.Query.{Asked, Question}
use Rattle.query.specs.Range.{Fits}
use Rattle.query.proofs.Accepted.{accepted_in_range}
use Rattle.rank.specs.Rank.{Hit, ranking}
use Rattle.rank.specs.Match.{Term, stored, score_of, holds, some, any_list, matches, hit_at, hits_of}
use Rattle.rank.proofs.Matches.{any_matches}
use Rattle.exhaustive.specs.Lists.{term_on}
use Rattle.pruned.specs.Pruned.{searched}
use Rattle.promises.specs.Served.{matches_for, Asks, Room}
use Rattle.promises.specs.Edits.{posts_in, Accepted, Shown}
use Rattle.promises.specs.Ranked.{In}
use Rattle.promises.proofs.Ranks.{all_in, ranking-best}
use Rattle.promises.proofs.Ranking.{gets_the_ranking}
use Rattle.promises.proofs.Edits.{one-edit, term-posts}

-- ---- a sheet with a score is a match

not-held : (d : ℕ) (ps : List Post) → has d (docs ps) ≡ false → stored ps d ≡ 0
not-held d [] e = refl
not-held d (p ∷ ps) e = split (eqb d p.doc) (λ f. both_ways (has d (docs (p ∷ ps))) (rw f) e) (λ f. rw f (not-held d ps (rw f at e)))

scored-held : (d : ℕ) (ts : List Term) → 1 ≤ score_of ts d → some (holds ts d) ≡ true
scored-held d [] l = absurd (omega arith)
scored-held d (t ∷ ts) l =
    split (has d (docs t.posts))
    (λ e. rw e)
    (λ e. let z : t.weight * stored t.posts d ≡ 0 = rw (not-held d t.posts e) (omega arith) in rw e (scored-held d ts (omega arith)))

in_map : (f : ℕ → Hit) (d : ℕ) (ds : List ℕ) → has d ds ≡ true → In (f d) (map f ds)
in_map f d [] e = absurd (false≢true e)
in_map f d (x ∷ ds) e =
    split (eqb d x)
    (λ g. inl (ap f (sym (eqb-true d x g))))
    (λ g. inr (in_map f d ds (rw g at e)))

pub scored-matches : (d : ℕ) (ts : List Term) → 1 ≤ score_of ts d → In (hit_at ts d) (hits_of any_list ts)
scored-matches d ts l = in_map (hit_at ts) d (matches any_list ts) (any_matches ts d ∙ scored-held d ts l)

-- ---- what was set, in the query's lists

score-is : (d : ℕ) (ps : List Post) → score_in d ps ≡ stored ps d
score-is d [] = refl
score-is d (p ∷ ps) = ap (cond (eqb d p.doc) p.score) (score-is d ps)

eqb-turn : (m n : ℕ) → eqb m n ≡ eqb n m
eqb-turn m n =
    split (eqb m n)
    (λ e. e ∙ sym (eq-eqb n m (sym (eqb-true m n e))))
    (λ e. e ∙ sym (ne_eqb n m (λ (q : n ≡ m). eqb-false m n e (sym q))))

stored_is : (t d : ℕ) (ws : List Word) → stored_in t d ws ≡ stored (posts_in t ws) d
stored_is t d [] = refl
stored_is t d (w ∷ ws) =
    rw (eqb-turn t w.term)
    (split (eqb w.term t) (λ e. rw e (score-is d w.posts)) (λ e. rw e (stored_is t d ws)))

score-least : (ls : List Listing) (d : ℕ) (y : Asked) (xs : List Asked) → In y xs → y.weight * stored (posts_of (term_blocks y.term ls)) d ≤ score_of (map (term_on ls) xs) d
score-least ls d y [] i = elim i [ ]
score-least ls d y (x ∷ xs) (inl e) = rw e (omega arith)
score-least ls d y (x ∷ xs) (inr i) = omega (arith, score-least ls d y xs i)

-- ---- a set that is accepted, on any sound shelf

module _ (t d w : ℕ) (s : List ℕ) (old : List Listing) (v : List ℕ) (set : Accepted (Set t d w) s old v) where
  module _ (q : List ℕ) (x : Question) (ls : List Listing) (a : Asks q v x ls) (y : Asked) (asks : In y x.terms) (same : y.term ≡ t) where
    -- the sheet as the query sees it
    abbrev raised : Hit
    raised = hit_at (map (term_on ls) x.terms) d

    set_there : stored_in t d (words_of ls) ≡ w
    set_there =
        let c = one-edit (Set t d w) s old v set in
        let new : ls ≡ c.leaves.new = let z : done ls ≡ done c.leaves.new = sym a.sound ∙ c.leaves.sound in cc in
        ap (λ (ms : List Listing). stored_in t d (words_of ms)) new ∙ c.only t d ∙ rw (eq-eqb t t refl, eq-eqb d d refl)

    raised_score : y.weight * w ≤ raised.score
    raised_score =
        let e : stored (posts_of (term_blocks y.term ls)) d ≡ w = rw same (ap (λ (ps : List Post). stored ps d) (term-posts t ls) ∙ sym (stored_is t d (words_of ls)) ∙ set_there) in
        rw e at (score-least ls d y x.terms asks)

    raised_matches : In raised (matches_for x ls)
    raised_matches =
        let some : 1 ≤ w = (set_ranged t d w (edited-done (Set t d w) s set.room v set.accepted).ranged).some in
        let heavy : 1 ≤ y.weight = (all_in Fits y x.terms (accepted_in_range q x a.query-bytes a.faultless).each asks).1 in
        scored-matches d (map (term_on ls) x.terms) (omega (arith, raised_score, one-le-mul heavy some))

    pub raised_is-shown : (rows : ℕ) (fs cs ms : List ℕ) → Room x ls rows fs cs ms → Shown w y x.k (matches_for x ls) raised (searched q v rows fs cs ms).outcome
    raised_is-shown rows fs cs ms r = record {
      scores = raised_score;
      matched = raised_matches;
      shown = λ l. (ranking x.k (matches_for x ls), gets_the_ranking q v x ls a rows fs cs ms r, (ranking-best x.k (matches_for x ls)).first raised raised_matches l);
    }
