-- `list::put_summaries` meets its contract. The invariant: to store the summaries of the blocks that are left gives what is asked. Assumes nothing.
use Rattle.std.specs.Iterator.Adapters.{zip_first, zip_second}
use Rattle.std.specs.Slice.Iter.{chunks_size}
use mathlib.Core.Path.{◌≡◌, ap, ◌∙◌}
use mathlib.Core.List.{List}
use Rattle.model.specs.Post.{Post}
use Rattle.model.proofs.Storing.{rest-start, rest-turn, rest_end, stored_as}
use Rattle.block.specs.Summary.{sum_bytes}
use Rattle.list.specs.Write.{packed, sums_bytes}
use Rattle.list.proofs.Packing.{docs_left, scores_left, cut, cut_turn, cut_rest, cut_none, fits-turn, sums-turn, sums-room, sums-end}
use Rattle.list.proofs.write.put_summaries.Goals as goal

pub loop-d-init : goal.loop-d-init
loop-d-init c =
    let z = c.into_iter-d-iterator.result in
    let d : docs_left z ≡ c.args.docs.now = cc in
    let s : scores_left z ≡ c.args.scores.now = cc in
    let m : chunks_size (zip_first z) ≡ 100 = cc in
    let n : chunks_size (zip_second z) ≡ 100 = cc in
    (cut z c.args.docs.now c.args.scores.now m n d s c.requires.0, rw (d, s) (rest-start _ _ _))

pub put_summary-j-requires : goal.put_summary-j-requires
put_summary-j-requires c =
    let t = cut_turn c.loop-d.d-iterator c.next.new.self c.in-Some.d c.in-Some.s c.loop-d.invariant.0 c.in-Some.ensures.steps in
    let f = fits-turn c.args.strip t c.summary_of-m.ensures in
    (f.0, f.1, sums-room c.args.strip t c.loop-d.invariant.1 c.requires.1)

pub loop-d-preserved : goal.loop-d-preserved
loop-d-preserved c =
    let t = cut_turn c.loop-d.d-iterator c.next.new.self c.in-Some.d c.in-Some.s c.loop-d.invariant.0 c.in-Some.ensures.steps in
    (cut_rest c.loop-d.d-iterator c.next.new.self c.in-Some.d c.in-Some.s c.loop-d.invariant.0 c.in-Some.ensures.steps, rest-turn _ _ (sums-turn c.args.strip t) c.loop-d.invariant.1 (stored_as (ap sum_bytes c.summary_of-m.ensures) c.put_summary-j.ensures))

pub returns : goal.returns
returns c = rest_end (ap (λ (ps : List Post). sums_bytes c.args.strip (packed 64 ps)) (cut_none c.loop-d.d-iterator c.in-None.ensures.steps) ∙ sums-end c.args.strip) c.loop-d.invariant.1
