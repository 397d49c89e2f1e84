-- The search is `find`'s.
use Rattle.std.proofs.Common.{rules, tests}
use mathlib.Core.Path.{ap, ◌∙◌}
use native.Mathlib.Nat.{sub-zero}
use Rattle.network.specs.Search.{lowest_with}
use Rattle.network.proofs.RangeLaws.{find_lowest}
use Rattle.survey.specs.Check.{spoiled_at, first_spoiled}
use Rattle.survey.proofs.checking.first_spoiled.Goals as goal

pub returns : goal.returns
unfolding first_spoiled
returns c =
    let t = c.args.t.now in
    let spoiled = spoiled_at t.head t.bytes.now in
    find_lowest spoiled _ _ _ _ c.find.ensures.ran (λ x f k. search (rules, tests)) (λ x f k. search (rules, tests))
    ∙ ap (lowest_with spoiled 0) (sub-zero _ ∙ c.slots_of-n.ensures)
