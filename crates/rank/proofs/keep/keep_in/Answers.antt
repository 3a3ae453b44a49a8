-- `keep_in` meets its contract. Assumes nothing.
use Prim.Native.Nat.{◌+◌, min}
use mathlib.Core.Path.{◌≡◌, refl, sym, ◌∙◌}
use native.Mathlib.Omega.{arith}
use lib.ListN.{length, take}
use lib.Seq.{length-take-le}
use Rattle.model.specs.Post.{post, postings}
use Rattle.rank.proofs.Rows.{rows-length, keep-rows, keep_same, open-length, open-past}
use Rattle.rank.proofs.keep.keep_in.Goals as goal

pub returns-then-k-p : goal.returns-then-k-p
returns-then-k-p c =
    let ds = c.args.docids.now in
    let ss = c.args.scores.now in
    let n = c.args.n in
    let long : length (take n (postings ds ss)) ≡ n = length-take-le n (postings ds ss) (omega (arith, rows-length ds ss (omega arith))) in
    record {
      kept = keep_same (take n (postings ds ss)) c.args.k c.place-p.result (post c.args.d c.args.s) (omega arith) c.if-k-p.true (omega (arith, c.place-p.ensures.0)) c.place-p.ensures.1;
      grows = omega arith;
      most = c.requires.2;
      docids = c.requires.0;
      scores = c.requires.1;
      docids-past = refl;
      scores-past = refl;
    }

pub returns : goal.returns
returns c =
    let ds = c.args.docids.now in
    let ss = c.args.scores.now in
    let n = c.args.n in
    let k = c.args.k in
    let p = c.place-p.result in
    let e = c.min-end.result in
    let is : e ≡ min (n + 1) k = c.min-end.ensures in
    record {
      kept = rw (c.open_at.ensures, c.open_at-2.ensures) (keep-rows ds ss n k p e c.args.d c.args.s (c.requires.0 ∙ sym c.requires.1) (omega arith) c.place-p.ensures.0 (omega arith) c.requires.2 (omega arith) (λ l. omega arith, λ l. omega arith) c.place-p.ensures.1);
      grows = omega arith;
      most = omega arith;
      docids = rw c.open_at.ensures (open-length p e c.args.d ds (omega arith) ∙ c.requires.0);
      scores = rw c.open_at-2.ensures (open-length p e c.args.s ss (omega arith) ∙ c.requires.1);
      docids-past = rw c.open_at.ensures (open-past p e c.args.d ds (omega arith));
      scores-past = rw c.open_at-2.ensures (open-past p e c.args.s ss (omega arith));
    }
