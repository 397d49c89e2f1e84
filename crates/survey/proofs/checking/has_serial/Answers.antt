-- The search is `any`'s.
use Rattle.std.proofs.Common.{rules, tests}
use Prim.Native.Nat.{ℕ}
use mathlib.Core.Bool.{Bool, ◌&&◌}
use mathlib.Core.Path.{ap, ◌∙◌}
use lib.Dec.{eqb}
use native.Mathlib.Nat.{sub-zero}
use Rattle.network.specs.Search.{lowest_with, is_at}
use Rattle.network.proofs.RangeLaws.{any_lowest}
use Rattle.table.specs.Held.{held_at}
use Rattle.survey.specs.Check.{serial_at}
use Rattle.survey.proofs.CheckLaws.{serial_searched}
use Rattle.survey.proofs.checking.has_serial.Goals as goal

pub returns : goal.returns
returns c =
    let t = c.args.t.now in
    let s = c.args.serial in
    let has : ℕ → Bool = λ k. held_at t k && eqb (serial_at t k) s in
    any_lowest has _ _ _ _ _ c.any.ensures.ran (λ x f k. search (rules, tests)) (λ x f k. search (rules, tests))
    ∙ ap (λ n. is_at (lowest_with has 0 n)) (sub-zero c.args.n)
    ∙ serial_searched t s c.args.n
