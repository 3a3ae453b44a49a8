-- `merge` meets its contract: what was kept, with the documents of what the lists still have, gives the answer (`Merges`); the postings left are fewer
-- with each run. Assumes nothing.
use Prim.Native.Nat.{ℕ, ◌<◌}
use mathlib.Core.Path.{◌≡◌, refl, ◌∙◌}
use mathlib.Core.List.{List}
use native.Mathlib.Omega.{arith}
use lib.ListN.{length}
use Rattle.model.specs.Runs.{Bytes}
use Rattle.rank.specs.Run.{none}
use Rattle.prune.specs.Prune.{terms_of, fault_all}
use Rattle.scan.specs.Heads.{roomy, terms}
use Rattle.exhaustive.specs.Merge.{Lines, wholes, fault_left, lists_from}
use Rattle.exhaustive.proofs.Fillings.{horizon-top}
use Rattle.exhaustive.proofs.Opens.{start-lines, start-wholes, start-fault}
use Rattle.exhaustive.proofs.Merges.{merging_none, merging_wrong, merging_done, merging_ready, merging_turn, merging_less}
use Rattle.std.proofs.lemmas.Result.{err_from_is_err_and}
use Rattle.exhaustive.proofs.merge.merge.Goals as goal

pub loop-filled-init : goal.loop-filled-init
loop-filled-init c =
    let lines : (ds ss : List ℕ) → length ds ≡ roomy → length ss ≡ roomy →
    Lines c.args.shelf.now ds ss c.open_all.result.heads c.open_all.result.lefts = λ ds ss d e. rw (c.open_all.ensures.heads, c.open_all.ensures.lefts)
    (start-lines c.args.shelf.now ds ss c.args.weights c.args.ats c.args.counts d e c.well_formed.1.1.1.0.1.0.1 c.well_formed.1.0.1.0.1 c.well_formed.1.1.0.1.0.1 c.requires.walked) in
    merging_none _ _ _ _ _ _ _ _ _ (lines _ _ refl refl) refl refl c.new-kept.ensures

pub returns-then-last-eq-END : goal.returns-then-last-eq-END
returns-then-last-eq-END c =
    let all_of : (ds ss : List ℕ) →
    wholes c.args.shelf.now (terms ds ss c.open_all.result.heads) c.open_all.result.lefts
    ≡ terms_of (lists_from c.args.shelf.now c.args.weights c.args.ats c.args.counts) = λ ds ss. rw (c.open_all.ensures.heads, c.open_all.ensures.lefts) (start-wholes c.args.shelf.now ds ss 0 c.args.weights c.args.ats c.args.counts) in
    let bad-of : fault_left c.args.shelf.now c.open_all.result.lefts
    ≡ fault_all (lists_from c.args.shelf.now c.args.weights c.args.ats c.args.counts) = let w : length c.args.weights ≡ 8 = c.well_formed.1.1.1.0.1.0.1 in
    let a : length c.args.ats ≡ 8 = c.well_formed.1.0.1.0.1 in
    rw c.open_all.ensures.lefts (start-fault c.args.shelf.now c.args.weights c.args.ats c.args.counts (omega arith)) in
    let f = c.in_ok-filled.ensures in
    record {
      ranked = rw (all_of _ _, bad-of) at (merging_done _ _ _ _ _ _ _ _ _ c.loop-filled.invariant _ _ _ _ f c.horizon-last.result c.horizon-last.ensures c.if-last-eq-END.true);
      few = c.loop-filled.invariant.room;
      whole = c.loop-filled.invariant.whole;
    }

pub run-after-requires : goal.run-after-requires
run-after-requires c =
    let last-below : c.horizon-last.result < none = omega (arith, c.if-last-eq-END.false, c.horizon-last.ensures, horizon-top c.in_ok-filled.filled.heads c.in_ok-filled.filled.lefts) in
    let f = c.in_ok-filled.ensures in
    merging_ready _ _ _ _ _ _ _ _ _ c.loop-filled.invariant _ _ _ _ f c.horizon-last.result c.horizon-last.ensures (last-below) c.requires.least c.requires.most

pub loop-filled-smaller : goal.loop-filled-smaller
loop-filled-smaller c =
    let last-below : c.horizon-last.result < none = omega (arith, c.if-last-eq-END.false, c.horizon-last.ensures, horizon-top c.in_ok-filled.filled.heads c.in_ok-filled.filled.lefts) in
    let f = c.in_ok-filled.ensures in
    merging_less _ _ _ _ _ _ _ _ _ c.loop-filled.invariant _ _ _ _ f c.horizon-last.result c.horizon-last.ensures (last-below) c.run-after.result c.run-after.ensures

pub loop-filled-preserved : goal.loop-filled-preserved
loop-filled-preserved c =
    let last-below : c.horizon-last.result < none = omega (arith, c.if-last-eq-END.false, c.horizon-last.ensures, horizon-top c.in_ok-filled.filled.heads c.in_ok-filled.filled.lefts) in
    let f = c.in_ok-filled.ensures in
    let bytes : Bytes c.args.shelf.now = λ i. omega (arith, c.shared_slice_known-1.given i) in
    merging_turn _ _ _ _ _ _ _ _ _ c.loop-filled.invariant _ _ _ _ f c.horizon-last.result c.horizon-last.ensures (last-below) c.run-after.result c.run-after.ensures bytes

pub returns-in_err-filled : goal.returns-in_err-filled
returns-in_err-filled c =
    let bad-of : fault_left c.args.shelf.now c.open_all.result.lefts
    ≡ fault_all (lists_from c.args.shelf.now c.args.weights c.args.ats c.args.counts) = let w : length c.args.weights ≡ 8 = c.well_formed.1.1.1.0.1.0.1 in
    let a : length c.args.ats ≡ 8 = c.well_formed.1.0.1.0.1 in
    rw c.open_all.ensures.lefts (start-fault c.args.shelf.now c.args.weights c.args.ats c.args.counts (omega arith)) in
    let p = err_from_is_err_and c.from_residual.result c.from_residual.ensures.1 in
    rw p.1 (λ e. merging_wrong _ _ _ _ _ _ _ _ _ c.loop-filled.invariant c.in_err-filled.ensures (bad-of ∙ e))
