-- The search is `find`'s.
use Rattle.std.proofs.Common.{rules, tests}
use Prim.Native.Nat.{suc, ◌+◌, ◌-◌}
use mathlib.Core.Path.{◌≡◌, ap, ◌∙◌}
use native.Mathlib.Omega.{arith}
use Rattle.network.specs.Search.{lowest_with}
use Rattle.network.proofs.RangeLaws.{find_lowest}
use Rattle.board.specs.Board.{net_of}
use Rattle.board.proofs.BoardLaws.{last_byte}
use Rattle.survey.specs.Find.{accepts, first_code}
use Rattle.survey.proofs.finding.first_code.Goals as goal

pub overflow_add-end : goal.overflow_add-end
overflow_add-end c = record { fits = omega (arith, c.last_code-end.ensures, last_byte c.args.t.now.head.board) }

pub returns : goal.returns
unfolding first_code
returns c =
    let t = c.args.t.now in
    let accepted = accepts t.head t.bytes.now c.args.slot in
    let codes : c.last_code-end.result + 1 - 0 ≡ suc (net_of t.head.board).last = omega (arith, c.last_code-end.ensures) in
    find_lowest accepted _ _ _ _ c.find.ensures.ran (λ x f k. search (rules, tests)) (λ x f k. search (rules, tests))
    ∙ ap (lowest_with accepted 0) codes
