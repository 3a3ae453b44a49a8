-- `offer_in` meets its contract: where k are kept and the post is behind the last, nothing changes. Assumes nothing.
use Prim.Native.Nat.{suc, ◌-◌}
use mathlib.Core.Path.{◌≡◌, refl, sym, ◌∙◌}
use native.Mathlib.Omega.{arith}
use lib.ListN.{length, take, get_or}
use lib.Seq.{length-take-le, get_or-take}
use Rattle.model.specs.Post.{post, postings}
use Rattle.rank.proofs.Rows.{rows-length, rows_get_d, keep-behind}
use Rattle.rank.proofs.keep.offer_in.Goals as goal

pub returns : goal.returns
returns c =
    let ds = c.args.docids.now in
    let ss = c.args.scores.now in
    let n = c.args.n in
    let j = c.args.k - 1 in
    let full : n ≡ c.args.k = omega arith in
    let pos : c.args.k ≡ suc j = omega (arith, c.requires.4) in
    let long : length (take n (postings ds ss)) ≡ n = length-take-le n (postings ds ss) (omega (arith, rows-length ds ss (omega arith))) in
    let here : get_or (take n (postings ds ss)) j (post 0 0) ≡ post (get_or ds j 0) (get_or ss j 0) = get_or-take n (postings ds ss) j (post 0 0) (omega arith) ∙ rows_get_d ds ss j (omega arith) (omega arith) in
    record {
      kept = keep-behind (take n (postings ds ss)) c.args.k j (post c.args.d c.args.s) (omega arith) pos c.requires.5 (rw here (sym c.is_ahead.ensures ∙ c.if-is_ahead.false));
      grows = omega arith;
      most = c.requires.2;
      docids = c.requires.0;
      scores = c.requires.1;
      docids-past = refl;
      scores-past = refl;
    }
