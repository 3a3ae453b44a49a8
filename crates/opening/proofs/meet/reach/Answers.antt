-- `reach` meets its contract: all blocks passed end below the docid. Assumes nothing.
use Rattle.std.proofs.Common.{◌≤◌, ◌<◌, rules, tests}
use Rattle.std.proofs.lemmas.Iterator.{IsFirst-from_position, YieldsList-from_slice}
use Rattle.std.proofs.option.Match.{if_some, if_none}
use Rattle.opening.proofs.Numbers.{first_found, first_end}
use Rattle.opening.proofs.Meets.{reaches_first}
use Rattle.opening.proofs.meet.reach.Goals as goal

pub returns-in-Some : goal.returns-in-Some
returns-in-Some c =
    let d = c.args.d in
    let first = if_some _ _ _ c.in-Some.is (IsFirst-from_position _ _ _ (λ x. d ≤ x) (λ x. x < d) c.position.ensures.ran (YieldsList-from_slice _ c.iter.ensures.rest) (λ x q k. search (rules, tests)) (λ x q k. search (rules, tests))) in
    reaches_first _ _ _ _ _ (first_found _ _ _ _ _ _ first.0 first.1 first.2)

pub returns-in-None : goal.returns-in-None
returns-in-None c =
    let d = c.args.d in
    let all = if_none _ _ c.in-None.is (IsFirst-from_position _ _ _ (λ x. d ≤ x) (λ x. x < d) c.position.ensures.ran (YieldsList-from_slice _ c.iter.ensures.rest) (λ x q k. search (rules, tests)) (λ x q k. search (rules, tests))) in
    reaches_first _ _ _ _ _ (first_end _ _ _ _ _ c.requires.0 c.requires.1 all)
