-- The table of the slice, if it passes, then the search in it.
use Rattle.std.proofs.Common.{rules}
use Rattle.std.specs.Prelude.{Result, Err}
use mathlib.Core.Path.{◌≡◌, sym, ◌∙◌}
use Rattle.table.specs.declared.refusals.Refusal.{Refusal}
use Rattle.survey.specs.declared.finding.Move.{Move}
use Rattle.survey.specs.Find.{found_in, found_slice}
use Rattle.survey.proofs.CheckLaws.{call_refused, call_passed}
use Rattle.survey.proofs.finding.find.Goals as goal

abbrev refused : Refusal → Result Move Refusal
refused e = Err e

pub returns-in_err-passing : goal.returns-in_err-passing
unfolding found_slice
returns-in_err-passing c =
    let e : c.from_residual.result ≡ Err c.in_err-passing.field-0.0 = search rules in
    e ∙ sym (call_refused refused found_in c.args.s.now c.in_err-passing.ensures.refused)

pub returns : goal.returns
unfolding found_slice
returns c =
    let p = c.in_ok-passing.ensures in
    c.first_move.ensures ∙ sym (call_passed refused found_in c.args.s.now p.head p.bytes p.faultless)
