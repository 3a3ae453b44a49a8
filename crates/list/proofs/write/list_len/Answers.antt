-- `list::list_len` meets its contract. The invariant: what is counted, with what the blocks take that are left, is the whole, in either layout. Assumes nothing.
use Rattle.std.specs.Iterator.Adapters.{zip_first, zip_second}
use Rattle.std.specs.Slice.Iter.{chunks_size}
use mathlib.Core.Path.{◌≡◌, refl, ap}
use mathlib.Core.Bool.{false}
use Prim.Native.Nat.{◌+◌, ◌≤◌}
use native.Mathlib.Omega.{arith}
use mathlib.Core.List.{List}
use Rattle.model.specs.Post.{Post, postings}
use Rattle.list.proofs.Packing.{docs_left, scores_left, cut, cut_turn, cut_rest, cut_none, size_of, size-turn, size-end, size_small, list-size}
use Rattle.list.proofs.write.list_len.Goals as goal

pub loop-d-init : goal.loop-d-init
loop-d-init c =
    let z = c.into_iter-d-iterator.result in
    let d : docs_left z ≡ c.args.docs.now = cc in
    let s : scores_left z ≡ c.args.scores.now = cc in
    let m : chunks_size (zip_first z) ≡ 100 = cc in
    let n : chunks_size (zip_second z) ≡ 100 = cc in
    (cut z c.args.docs.now c.args.scores.now m n d s c.requires, rw (d, s) (λ strip. refl))

pub body_len-requires : goal.body_len-requires
body_len-requires c =
    let t = cut_turn c.loop-d.d-iterator c.next.new.self c.in-Some.d c.in-Some.s c.loop-d.invariant.0 c.in-Some.ensures.steps in (t.some, t.few, t.even)

pub overflow_add-n : goal.overflow_add-n
overflow_add-n c =
    let t = cut_turn c.loop-d.d-iterator c.next.new.self c.in-Some.d c.in-Some.s c.loop-d.invariant.0 c.in-Some.ensures.steps in
    let small : 8 + size_of false (postings c.args.docs.now c.args.scores.now) ≤ 45768 = omega (arith, size_small false c.args.docs.now c.args.scores.now) in
    omega (arith, small, size-turn false t, c.body_len.ensures false, c.loop-d.invariant.1 false)

pub overflow_add-n-in-loop-d : goal.overflow_add-n-in-loop-d
overflow_add-n-in-loop-d c =
    let t = cut_turn c.loop-d.d-iterator c.next.new.self c.in-Some.d c.in-Some.s c.loop-d.invariant.0 c.in-Some.ensures.steps in
    let small : 8 + size_of false (postings c.args.docs.now c.args.scores.now) ≤ 45768 = omega (arith, size_small false c.args.docs.now c.args.scores.now) in
    omega (arith, small, size-turn false t, c.body_len.ensures false, c.loop-d.invariant.1 false)

pub loop-d-preserved : goal.loop-d-preserved
loop-d-preserved c =
    let t = cut_turn c.loop-d.d-iterator c.next.new.self c.in-Some.d c.in-Some.s c.loop-d.invariant.0 c.in-Some.ensures.steps in
    (cut_rest c.loop-d.d-iterator c.next.new.self c.in-Some.d c.in-Some.s c.loop-d.invariant.0 c.in-Some.ensures.steps, λ strip. omega (arith, size-turn strip t, c.body_len.ensures strip, c.loop-d.invariant.1 strip))

pub returns : goal.returns
returns c strip t =
    omega (
      arith,
      ap (λ (ps : List Post). size_of strip ps) (cut_none c.loop-d.d-iterator c.in-None.ensures.steps),
      size-end strip,
      list-size strip t c.args.docs.now c.args.scores.now,
      c.loop-d.invariant.1 strip,
    )
