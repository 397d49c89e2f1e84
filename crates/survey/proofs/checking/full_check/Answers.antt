use Rattle.std.specs.Prelude.{Result, Ok, Err, ⊤}
use mathlib.Core.Path.{sym}
use Rattle.table.specs.declared.refusals.Refusal.{Refusal}
use Rattle.survey.specs.Check.{checked_slice}
use Rattle.survey.proofs.CheckLaws.{call_passed}
use Rattle.survey.proofs.checking.full_check.Goals as goal

pub returns : goal.returns
unfolding checked_slice
returns c =
    let p = c.in_ok-passing.ensures in
    sym (call_passed {A = Result ⊤ Refusal} Err (λ h t. Ok tt) c.args.s.now p.head p.bytes p.faultless)
