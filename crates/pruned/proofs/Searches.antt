-- The pruned ranker's answer, by what the query's reader, the walk and the rows say. Assumes nothing.
use Prim.Native.Nat.{ℕ, zero, suc, ◌+◌, ◌-◌, ◌≤◌, ◌<◌}
use mathlib.Core.Path.{◌≡◌, sym, ap, ◌∙◌}
use mathlib.Core.List.{List, [], ◌∷◌, ◌++◌, map, append-nil, append_assoc}
use native.Mathlib.Omega.{arith}
use lib.Dec.{ltb}
use lib.ListN.{length, get_or, take, drop, replicate, length-map, length-append, get_or-replicate}
use lib.Seq.{length-take-le, get_or-append-add}
use borrow.Author.Tests.{le-leb, lt-leb, ltb-true, ltb-false}
use Rattle.model.specs.Limits.{max_docid, max_terms, max_k}
use Rattle.model.specs.Outcome.{Outcome, refused, done}
use Rattle.model.proofs.Lists.{split, map_same}
use Rattle.query.specs.Query.{Question, asked, terms_of as asked_terms}
use Rattle.query.specs.Answers.{Carries, zeros as no_terms}
use Rattle.query.specs.declared.read.Query.{Query}
use Rattle.shelf.specs.Walk as shelf
use Rattle.shelf.specs.Walk.{walk}
use Rattle.lookup.specs.Gather.{place_at, Located}
use Rattle.lookup.specs.Table.{Gatherable}
use Rattle.lookup.specs.declared.gather.Found.{Found}
use Rattle.lookup.proofs.Terms.{found_gatherable}
use Rattle.rank.specs.Rank.{Hit}
use Rattle.rank.specs.Match.{any_list}
use Rattle.prune.specs.Cut.{Listing, starts, ceiling_at}
use Rattle.prune.specs.Prune.{never, pruned}
use Rattle.prune.proofs.Rooms.{Within, within_more, then_within, judged-within, pruned-within}
use Rattle.exhaustive.specs.Lists.{listings_of}
use Rattle.exhaustive.specs.Merge.{lists_from}
use Rattle.exhaustive.proofs.Founds.{blanks}
use Rattle.exhaustive.proofs.Alls.{found_mergeable, found-lists}
use Rattle.intervals.specs.Blocks.{room_for}
use Rattle.intervals.proofs.Blanks.{blank, starts-blank, ceiling-blank, pruned-blank, book-blank, blocks-blank, opened-blank}
use Rattle.pruned.specs.Pruned.{Answer, Sought, fitting, sought, front, unless_refused, answer, searched, Searchable}
use Rattle.pruned.proofs.Endings.{over}

-- ---- a list without blocks changes nothing

abbrev filled : (o : Outcome (List Hit)) (starts ceilings marks : List ℕ) (opened blocks : ℕ) (fs cs ms : List ℕ) → Answer
filled o starts ceilings marks opened blocks fs cs ms =
    record { outcome = o; intervals = length starts; opened = unless_refused o opened; blocks = unless_refused o blocks; firsts = front starts fs; ceilings = front ceilings cs; marks = front marks ms }

filled-same : (o p : Outcome (List Hit)) (ss ts cs ds ms ns : List ℕ) (a b c d : ℕ) (x y z : List ℕ) → o ≡ p → ss ≡ ts → cs ≡ ds → ms ≡ ns → a ≡ b → c ≡ d
    → filled o ss cs ms a c x y z ≡ filled p ts ds ns b d x y z
filled-same o p ss ts cs ds ms ns a b c d x y z e f g h i j = rw (e, f, g, h, i, j)

module _ (k : ℕ) (fs cs ms : List ℕ) where
  one-blank : (w : ℕ) (ls : List Listing) → over k fs cs ms (ls ++ (blank w ∷ [])) ≡ over k fs cs ms ls
  one-blank w ls =
      let us = ls ++ (blank w ∷ []) in
      let n : length (starts max_docid us) ≡ length (starts max_docid ls) = ap length (starts-blank w max_docid ls) in
      let tall : map (ceiling_at us) (starts max_docid us) ≡ map (ceiling_at ls) (starts max_docid ls) =
      map_same (ceiling_at us) (ceiling_at ls) (starts max_docid us) (ceiling-blank w ls) ∙ ap (map (ceiling_at ls)) (starts-blank w max_docid ls) in
      let same : answer (done (record { k = k; lists = us })) fs cs ms ≡ answer (done (record { k = k; lists = ls })) fs cs ms =
      filled-same _ _ _ _ _ _ _ _ _ _ _ _ fs cs ms (pruned-blank w max_docid k ls) (starts-blank w max_docid ls) tall (book-blank w max_docid k ls) (opened-blank w max_docid k ls) (blocks-blank w ls) in
      rw n (split (room_for (length (starts max_docid ls)) (length fs) (length cs) (length ms)) (λ e. rw e same) (λ e. rw e))

  blanks_answer : (m : ℕ) (ls : List Listing) → over k fs cs ms (ls ++ blanks m) ≡ over k fs cs ms ls
  blanks_answer zero ls = ap (over k fs cs ms) (append-nil ls)
  blanks_answer (suc m) ls = ap (over k fs cs ms) (sym (append_assoc ls (blank 0 ∷ []) (blanks m))) ∙ blanks_answer m (ls ++ (blank 0 ∷ [])) ∙ one-blank 0 ls

-- ---- the arrays that are handed on
module _ (s : List ℕ) (x : Question) (c : Query) (h : Carries x c) (n : c.n ≤ max_terms) (ls : List shelf.Listing) (w : walk s ≡ done ls) (r : Found) (f : Located c.terms c.n ls r) where
  fits : c.n ≤ length c.terms
  fits = omega (arith, h.terms.count, ap length h.terms.whole, length-append (asked_terms x.terms) (drop c.n no_terms))

  -- a term that is not asked has no blocks
  past-none : (t : ℕ) → c.n ≤ t → t < max_terms → get_or r.counts t 0 ≡ 0
  past-none t a l =
      let xs = map (λ (y : ℕ). (place_at y ls).count) (take c.n c.terms) in
      let size : length xs ≡ c.n = length-map (take c.n c.terms) (λ (y : ℕ). (place_at y ls).count) ∙ length-take-le c.n c.terms fits in
      let e : length xs + (t - c.n) ≡ t = omega (arith, size) in
      rw f.counts (rw e at (get_or-append-add xs (replicate (max_terms - c.n) 0) (t - c.n) 0) ∙ get_or-replicate (max_terms - c.n) (t - c.n) 0 0 (omega arith))

  all-ready : Gatherable s r.ats r.counts max_terms
  all-ready =
      let some-ready = found_gatherable s c.terms c.n r ls w f n fits in
      record {
        terms = omega arith;
        small = some-ready.small;
        ready = λ t l some. split (ltb t c.n) (λ e. some-ready.ready t (ltb-true _ _ e) some) (λ e. absurd (omega (arith, past-none t (ltb-false _ _ e) l)));
      }

  pub found_searchable : (k : ℕ) → 0 < k → k ≤ max_k → Searchable s r.ats r.counts k
  found_searchable k l m = record { walked = found_mergeable s x c h n ls w r f k l m; ready = all-ready }

  pub found-answer : (fs cs ms : List ℕ) → over c.k fs cs ms (lists_from s c.weights r.ats r.counts) ≡ over x.k fs cs ms (listings_of x.terms ls)
  found-answer fs cs ms =
      ap {B = Answer} (λ k. over k fs cs ms (lists_from s c.weights r.ats r.counts)) h.k
      ∙ ap (over x.k fs cs ms) (found-lists s x c h n ls w r f)
      ∙ blanks_answer x.k fs cs ms (max_terms - c.n) (listings_of x.terms ls)

-- ---- the answer
module _ (q s : List ℕ) (rows : ℕ) (fs cs ms : List ℕ) where
  pub searched-asked : (n at : ℕ) → asked q ≡ refused n at → answer (refused n at) fs cs ms ≡ searched q s rows fs cs ms
  unfolding searched
  searched-asked n at e = rw e

  module _ (x : Question) (a : asked q ≡ done x) where
    pub searched-walk : (n at : ℕ) → walk s ≡ refused n at → answer (refused n at) fs cs ms ≡ searched q s rows fs cs ms
    unfolding searched
    searched-walk n at e = rw (a, e)

    module _ (ls : List shelf.Listing) (w : walk s ≡ done ls) where
      pub searched-rows : rows < x.k → answer (refused 9 0) fs cs ms ≡ searched q s rows fs cs ms
      unfolding searched
      searched-rows l = rw (a, w, lt-leb x.k rows l)

      pub searched-lists : x.k ≤ rows → over x.k fs cs ms (listings_of x.terms ls) ≡ searched q s rows fs cs ms
      unfolding searched
      searched-lists l = rw (a, w, le-leb x.k rows l)

-- ---- it has no more hits than there are rows

abbrev wanted : Sought → ℕ
wanted x = x.k

answer-within : (rows : ℕ) (o : Outcome Sought) (fs cs ms : List ℕ) → Within wanted rows o → Within length rows (answer o fs cs ms).outcome
answer-within rows (refused n a) fs cs ms h = tt
answer-within rows (done x) fs cs ms h =
    within_more length x.k rows (pruned any_list never max_docid x.k x.lists) h (pruned-within any_list never max_docid x.k x.lists)

fitting-within : (k : ℕ) (ls : List Listing) (a b c : ℕ) → Within wanted k (fitting k ls a b c)
fitting-within k ls a b c = split (room_for (length (starts max_docid ls)) a b c) (λ e. rw e (omega arith)) (λ e. rw e tt)

pub searched-within : (q s : List ℕ) (rows : ℕ) (fs cs ms : List ℕ) → Within length rows (searched q s rows fs cs ms).outcome
unfolding searched
searched-within q s rows fs cs ms =
    answer-within rows (sought q s rows (length fs) (length cs) (length ms)) fs cs ms
    (then_within wanted rows (asked q) _ (λ x. then_within wanted rows (walk s) _ (λ ls.
    judged-within wanted x.k rows _ (fitting-within x.k (listings_of x.terms ls) (length fs) (length cs) (length ms)))))
