-- `reach` meets its contract: no block before the place holds the docid. Assumes nothing.
use Rattle.std.proofs.Common.{◌≡◌, ◌+◌, ◌<◌, ◌≤◌, length, drop, ◌∙◌, arith, rules, tests}
use Rattle.std.proofs.lemmas.Iterator.{IsFirst-from_position, YieldsList-from_slice}
use Rattle.std.proofs.lemmas.List.{get_or-drop, length-drop}
use Rattle.model.proofs.Storing.{part_end}
use Rattle.prune.proofs.Books.{below-part}
use Rattle.prune.proofs.ceiling.reach.Goals as goal

pub returns-in-Some : goal.returns-in-Some
returns-in-Some c =
    let his = c.args.his.now in
    let from = c.args.from in
    let d = c.args.d in
    let first = rw c.in-Some.is at (IsFirst-from_position _ _ c.position.result (λ x. d ≤ x) (λ x. x < d) c.position.ensures.ran (YieldsList-from_slice (drop from his) (c.iter.ensures.rest ∙ part_end from his)) (λ x q k. search (rules, tests)) (λ x q k. search (rules, tests))) in
    record {
      j_in = omega (arith, first.0, length-drop from his);
      below = below-part d from c.in-Some.k his c.requires.1 first.2;
      ends = λ l. rw (get_or-drop from his c.in-Some.k 0) at (first.1 0);
    }

pub returns-in-None : goal.returns-in-None
returns-in-None c =
    let his = c.args.his.now in
    let from = c.args.from in
    let d = c.args.d in
    let none = rw c.in-None.is at (IsFirst-from_position _ _ c.position.result (λ x. d ≤ x) (λ x. x < d) c.position.ensures.ran (YieldsList-from_slice (drop from his) (c.iter.ensures.rest ∙ part_end from his)) (λ x q k. search (rules, tests)) (λ x q k. search (rules, tests))) in
    let all : from + length (drop from his) ≡ length his = omega (arith, length-drop from his) in
    record {
      j_in = omega arith;
      below = rw all at (below-part d from (length (drop from his)) his c.requires.1 none);
      ends = λ l. absurd (omega arith);
    }
