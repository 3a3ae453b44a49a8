-- `interval` meets its contract: the run over lists skipped to the first docid gives the interval's hits. Assumes nothing.
use Rattle.rank.specs.Keep.{kept_of}
use Rattle.scan.specs.Heads.{terms}
use Rattle.rank.proofs.Hits.{interval-kept, interval-left}
use Rattle.scan.proofs.run.interval.Goals as goal

pub returns : goal.returns
returns c =
    let ds = c.args.docs.now in
    let ss = c.args.scores.now in
    let ts = terms ds ss c.args.heads in
    let skip = c.skip_all-hs in
    let r = c.run.ensures in
    record {
      kept = interval-kept c.args.k c.args.first c.args.last (kept_of c.args.kept) _ ts (terms ds ss skip.result) skip.ensures.same c.requires.below c.requires.rising r.kept;
      rows = r.rows;
      room = r.room;
      order = r.order;
      inside = r.inside;
      parts = r.parts;
      moved = rw skip.ensures.moved at r.moved;
      left = interval-left c.args.first c.args.last ts (terms ds ss skip.result) _ skip.ensures.same c.requires.below c.requires.from r.left;
    }
