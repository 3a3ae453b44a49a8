-- The merge: what was kept, with the documents of what the lists still have, gives what it gave at the start. Assumes nothing.
use Prim.Native.Nat.{ℕ, suc, ◌≤◌, ◌<◌}
use mathlib.Core.Path.{◌≡◌, sym, ap, ◌∙◌}
use mathlib.Core.Option.{Option, none}
use mathlib.Core.List.{List, [], ◌∷◌, ◌++◌, map, foldl-append}
use native.Mathlib.Omega.{arith}
use lib.ListN.{length, length-map}
use Rattle.model.specs.Limits.{max_terms, max_k}
use Rattle.model.specs.Outcome.{done}
use Rattle.model.specs.Runs.{Bytes}
use Rattle.rank.specs.Rank.{Hit, keep, keeps, ranking, Ordered}
use Rattle.rank.specs.Match.{Term, any_list, hits_of}
use Rattle.rank.specs.Keep.{kept_of, no_hits, keeper}
use Rattle.rank.specs.Run as run
use Rattle.rank.specs.Run.{skip_term, size, run_hits}
use Rattle.rank.specs.declared.keep.Kept.{Kept}
use Rattle.rank.proofs.Ranks.{best-ranking}
use Rattle.rank.proofs.Keepings.{kept_more}
use Rattle.rank.proofs.Hits.{Rises}
use Rattle.prune.specs.Search.{unless}
use Rattle.scan.specs.Heads.{term_of, terms}
use Rattle.scan.specs.Run.{Ready, Ran}
use Rattle.scan.specs.declared.head.Head.{Head}
use Rattle.scan.specs.declared.run.After.{After}
use Rattle.exhaustive.specs.Merge.{Behinds, Lines, wholes, fault_left, FilledUp, horizon_of}
use Rattle.exhaustive.specs.declared.fill.Left.{Left}
use Rattle.exhaustive.proofs.Wholes.{Pasts, rising_asc, wholes_skip, wholes_less}
use Rattle.exhaustive.proofs.Horizons.{hits-split, left-zero, behind_skip, skip_less, horizon-past-all, horizon_stands, horizon-ended}

pub record Merging (s : List ℕ) (k : ℕ) (all : List Term) (bad : Option ℕ) (ds ss : List ℕ) (hs : List Head) (ls : List Left) (kept : Kept) : Type 0 where
  pub lines : Lines s ds ss hs ls
  pub hits : keeps k (kept_of kept) (hits_of any_list (wholes s (terms ds ss hs) ls)) ≡ keeps k [] (hits_of any_list all)
  pub fault : fault_left s ls ≡ bad
  pub whole : kept ≡ keeper (kept_of kept)
  pub room : kept.n ≤ k
  pub order : Ordered (kept_of kept)

pub merging_none : (s : List ℕ) (k : ℕ) (all : List Term) (bad : Option ℕ) (ds ss : List ℕ) (hs : List Head) (ls : List Left) (kept : Kept) → Lines s ds ss hs ls
    → wholes s (terms ds ss hs) ls ≡ all → fault_left s ls ≡ bad → kept ≡ no_hits → Merging s k all bad ds ss hs ls kept
merging_none s k all bad ds ss hs ls kept w e f z = record { lines = w; hits = rw (z, e); fault = f; whole = rw z; room = rw z (omega arith); order = rw z tt }

-- what the buffers have rises
buffers_rise : (s : List ℕ) (us : List Term) (ls : List Left) → length us ≤ length ls → Behinds s us ls → Rises 0 us
buffers_rise s [] ls n w = tt
buffers_rise s (u ∷ us) [] n w = absurd (omega arith)
buffers_rise s (u ∷ us) (l ∷ ls) n w = (rising_asc 0 u.posts w.0.rising, buffers_rise s us ls (omega arith) w.1)

module _ (s : List ℕ) (k : ℕ) (all : List Term) (bad : Option ℕ) (ds ss : List ℕ) (hs : List Head) (ls : List Left) (kept : Kept) (w : Merging s k all bad ds ss hs ls kept) where
  pub merging_wrong : (fault_left s ls ≡ none → ⊥) → bad ≡ none → ⊥
  merging_wrong f e = f (w.fault ∙ e)

  module _ (ds' ss' : List ℕ) (hs' : List Head) (ls' : List Left) (f : FilledUp s ds ss hs ls ds' ss' hs' ls') where
    even : length hs' ≡ length ls'
    even = f.lines.heads ∙ sym f.lines.lefts

    few : length (terms ds' ss' hs') ≤ length ls'
    few = omega (arith, length-map hs' (term_of ds' ss'), even)

    -- no list has anything: these are the answer
    pub merging_done : (last : ℕ) → last ≡ horizon_of hs' ls' → last ≡ run.none → unless bad (ranking k (hits_of any_list all)) ≡ done (kept_of kept)
    merging_done last q e =
        let z = horizon-ended s ds' ss' hs' ls' even (omega arith) f.lines.behind f.settled in
        let clean : bad ≡ none = sym w.fault ∙ sym f.fault ∙ z.1 in
        let best : keeps k [] (hits_of any_list all) ≡ kept_of kept = sym w.hits ∙ rw (sym f.same, z.0) in
        rw clean (ap done (sym (best-ranking k (hits_of any_list all)) ∙ best))

    -- a run up to the horizon
    module _ (last : ℕ) (q : last ≡ horizon_of hs' ls') (b : last < run.none) where
      pub merging_ready : 0 < k → k ≤ max_k → Ready ds' ss' hs' last k kept
      merging_ready l m = record { inside = f.lines.inside; parts = f.lines.parts; below = b; room = w.room; least = l; most = m; order = w.order }

      past : Pasts s last ls'
      past = horizon-past-all s ds' ss' last hs' ls' even (omega arith) f.lines.behind f.settled

      module _ (r : After) (g : Ran ds' ss' hs' last k kept r) where
        left : terms ds' ss' r.heads ≡ map (skip_term (suc last)) (terms ds' ss' hs')
        left = g.left ∙ left-zero last (terms ds' ss' hs') b

        skipped : map (skip_term (suc last)) (wholes s (terms ds' ss' hs') ls') ≡ wholes s (terms ds' ss' r.heads) ls'
        skipped = rw left (wholes_skip s last (terms ds' ss' hs') ls' few past)

        long : length r.heads ≡ max_terms
        long =
            sym (length-map r.heads (term_of ds' ss')) ∙ ap length left ∙ length-map (terms ds' ss' hs') (skip_term (suc last))
            ∙ length-map hs' (term_of ds' ss') ∙ f.lines.heads

        pub merging_turn : Bytes s → Merging s k all bad ds' ss' r.heads ls' r.kept
        merging_turn bytes =
            let U = terms ds' ss' hs' in
            let A = run_hits any_list (size U) last U in
            let B = hits_of any_list (wholes s (terms ds' ss' r.heads) ls') in
            let cut : hits_of any_list (wholes s U ls') ≡ A ++ B =
            rw skipped at (hits-split s bytes last b U ls' few f.lines.behind past (buffers_rise s U ls' few f.lines.behind)) in
            record {
              lines = record { heads = long; lefts = f.lines.lefts; inside = g.inside; parts = g.parts; behind = rw left (behind_skip s (suc last) U ls' f.lines.behind) };
              hits = ap (λ (x : List Hit). keeps k x B) g.kept ∙ sym (foldl-append (keep k) (kept_of kept) A B) ∙ ap (keeps k (kept_of kept)) (sym cut ∙ ap (hits_of any_list) f.same) ∙ w.hits;
              fault = f.fault ∙ w.fault;
              whole = kept_more no_hits kept r.kept k A w.room w.whole g.kept g.rows;
              room = g.room;
              order = g.order;
            }

        pub merging_less : size (wholes s (terms ds' ss' r.heads) ls') < size (wholes s (terms ds ss hs) ls)
        merging_less =
            let U = terms ds' ss' hs' in
            let stands = horizon_stands s ds' ss' hs' ls' even (omega arith) f.lines.behind in
            rw (left, sym f.same)
            (wholes_less s (suc last) U ls' few (omega (arith, few, length-map U (skip_term (suc last)))) (skip_less last U b (omega arith)))
