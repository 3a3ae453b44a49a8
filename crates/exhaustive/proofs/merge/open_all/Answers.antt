-- `open_all` meets its contract: what stands at each place of the heads, and what is left filled from the front. Assumes nothing.
use Prim.Native.Nat.{◌+◌}
use mathlib.Core.Path.{◌≡◌, sym, ap, ◌∙◌}
use native.Mathlib.Omega.{arith}
use lib.ListN.{length, get_or, length-set}
use lib.Seq.{ext_get_or}
use Rattle.std.proofs.Common.{rules}
use Rattle.scan.specs.Heads.{blank}
use Rattle.exhaustive.specs.Merge.{start_head, start_heads, start_lefts}
use Rattle.exhaustive.specs.declared.fill.Left.{Left}
use Rattle.exhaustive.proofs.Fillings.{no_left}
use Rattle.exhaustive.proofs.Opens.{front-turn, front-done, heads-long, heads-at, lefts-long, lefts-at, addressed-at}
use Rattle.exhaustive.proofs.merge.open_all.Goals as goal

pub reading_at-requires-in-loop-t : goal.reading_at-requires-in-loop-t
reading_at-requires-in-loop-t c =
    let a : length c.args.ats ≡ 8 = c.well_formed.0.1.0.1 in
    let b : length c.args.counts ≡ 8 = c.well_formed.1.0.1.0.1 in
    addressed-at c.loop-t.t c.args.ats c.args.counts (omega arith) (omega arith) c.requires

pub loop-t-preserved : goal.loop-t-preserved
loop-t-preserved c =
    let t = c.loop-t.t in
    let a : length c.args.ats ≡ 8 = c.well_formed.0.1.0.1 in
    let b : length c.args.counts ≡ 8 = c.well_formed.1.0.1.0.1 in
    let left : record { blocks = c.reading_at-in-loop-t.result; top = 0 } ≡ get_or (start_lefts c.args.ats c.args.counts) t no_left =
    ap {B = Left} (λ r. record { blocks = r; top = 0 }) c.reading_at-in-loop-t.ensures ∙ lefts-at t c.args.ats c.args.counts (omega arith) (omega arith) in (
      length-set c.loop-t.lefts t _ ∙ c.loop-t.invariant.0,
      front-turn no_left c.loop-t.lefts (start_lefts c.args.ats c.args.counts) t _ (omega arith) (omega (arith, lefts-long c.args.ats c.args.counts (omega arith))) c.loop-t.invariant.1 left,
    )

pub returns : goal.returns
returns c =
    let ws = c.args.weights in
    let hs = c.from_fn-heads.result in
    let a : length c.args.ats ≡ 8 = c.well_formed.0.1.0.1 in
    let b : length c.args.counts ≡ 8 = c.well_formed.1.0.1.0.1 in
    let w : length ws ≡ 8 = c.well_formed.1.1.0.1.0.1 in
    let m : length hs ≡ 8 = c.from_fn-heads.ensures.items.long in
    record {
      heads = ext_get_or blank hs (start_heads 0 ws) (m ∙ sym (heads-long 0 ws ∙ w)) (λ i l.
          let e : get_or hs i blank ≡ start_head i (get_or ws i 0) = let q = c.from_fn-heads.ensures.items.at i blank (omega arith) in search rules in
          let z : 0 + i ≡ i = omega arith in
          e ∙ rw z at (heads-at 0 i ws (omega arith)));
      lefts = front-done no_left c.loop-t.lefts (start_lefts c.args.ats c.args.counts) 8 c.loop-t.t c.loop-t.invariant.0 (lefts-long c.args.ats c.args.counts (a ∙ sym b) ∙ a) (omega arith) c.loop-t.invariant.1;
    }
