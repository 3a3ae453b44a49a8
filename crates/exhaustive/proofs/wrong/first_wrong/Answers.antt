-- `first_wrong` meets its contract: what is left of the lists takes what was met on to the answer (`Wrongs`). Assumes nothing.
use mathlib.Core.Path.{◌≡◌, sym, ap, ◌∙◌}
use mathlib.Core.Option.{Option}
use native.Mathlib.Omega.{arith}
use lib.ListN.{length, get_or}
use Rattle.std.proofs.lemmas.List.{length_push}
use Rattle.std.proofs.lemmas.Slice.Zip.{zip_turn, zip_end}
use Rattle.shelf.specs.declared.blocks.Reading.{Reading}
use Rattle.prune.specs.Prune.{earlier, fault_in}
use Rattle.exhaustive.specs.Merge.{on_shelf, reading_at, wrong_of}
use Rattle.exhaustive.proofs.Opens.{addressed-at}
use Rattle.exhaustive.proofs.Wrongs.{walked_at, lists-turn, lists-done}
use Rattle.exhaustive.proofs.wrong.first_wrong.Goals as goal

pub reading_at-blocks-requires : goal.reading_at-blocks-requires
reading_at-blocks-requires c =
    let as₀ = c.args.ats in
    let cs = c.args.counts in
    let l = c.loop-at in
    let z = zip_turn as₀ cs l.yielded c.into_iter-at-iterator.result _ c.next.new.self _ (cc) (cc) l.yielded_by _ c.in-Some.is c.next.ensures.steps in
    rw (z.2 0, z.3 0) (addressed-at (length l.yielded) as₀ cs z.0 z.1 c.requires.1)

pub wrong_in-w-requires : goal.wrong_in-w-requires
wrong_in-w-requires c =
    let as₀ = c.args.ats in
    let cs = c.args.counts in
    let l = c.loop-at in
    let z = zip_turn as₀ cs l.yielded c.into_iter-at-iterator.result _ c.next.new.self _ (cc) (cc) l.yielded_by _ c.in-Some.is c.next.ensures.steps in
    rw (c.reading_at-blocks.ensures, z.2 0, z.3 0) (walked_at c.args.shelf.now (length l.yielded) as₀ cs z.0 z.1 c.requires.0).0

pub loop-at-preserved : goal.loop-at-preserved
loop-at-preserved c =
    let s = c.args.shelf.now in
    let as₀ = c.args.ats in
    let cs = c.args.counts in
    let l = c.loop-at in
    let t = length l.yielded in
    let a : length as₀ ≡ 8 = c.well_formed.1.0.1.0.1 in
    let b : length cs ≡ 8 = c.well_formed.1.1.0.1.0.1 in
    let z = zip_turn as₀ cs l.yielded c.into_iter-at-iterator.result _ c.next.new.self _ (cc) (cc) l.yielded_by _ c.in-Some.is c.next.ensures.steps in
    let e : c.reading_at-blocks.result ≡ reading_at (get_or as₀ t 0) (get_or cs t 0) = rw (← z.2 0, ← z.3 0) c.reading_at-blocks.ensures in
    let q : wrong_of c.wrong_in-w.result ≡ earlier (wrong_of l.w) (fault_in (on_shelf s (reading_at (get_or as₀ t 0) (get_or cs t 0)))) =
    c.wrong_in-w.ensures ∙ ap {B = Option _} (λ (r : Reading). earlier (wrong_of l.w) (fault_in (on_shelf s r))) e in
    rw (length_push l.yielded (c.in-Some.field-0-0, c.in-Some.field-0-1)) (lists-turn s as₀ cs (a ∙ sym b) t (wrong_of l.w) (wrong_of c.wrong_in-w.result) z.0 q l.invariant)

pub returns : goal.returns
returns c =
    let as₀ = c.args.ats in
    let cs = c.args.counts in
    let l = c.loop-at in
    let a : length as₀ ≡ 8 = c.well_formed.1.0.1.0.1 in
    let b : length cs ≡ 8 = c.well_formed.1.1.0.1.0.1 in
    let z = zip_end as₀ cs l.yielded c.into_iter-at-iterator.result _ c.next.new.self _ (cc) (cc) l.yielded_by c.in-None.is c.next.ensures.steps in
    lists-done c.args.shelf.now as₀ cs (a ∙ sym b) (length l.yielded) (wrong_of l.w) (omega arith) l.invariant
