-- The table of the slice, if it passes, then the second buffer's length.
use Rattle.std.proofs.Common.{rules}
use Rattle.std.specs.Prelude.{Result, Err, ⊤}
use mathlib.Core.Path.{◌≡◌, sym, ap, ◌∙◌}
use mathlib.Core.List.{List}
use Prim.Native.Nat.{ℕ}
use Rattle.table.specs.declared.refusals.Refusal.{Refusal}
use Rattle.table.specs.Calls.{Outcome, outcome}
use Rattle.survey.specs.Copy.{copied_in, copied_slice}
use Rattle.survey.proofs.CheckLaws.{call_refused, call_passed}
use Rattle.survey.proofs.copying.copy_outward.Goals as goal

abbrev refused : List ℕ → Refusal → Outcome (Result ⊤ Refusal) (List ℕ)
refused out e = outcome (Err e) out

pub returns-in_err-passing : goal.returns-in_err-passing
unfolding copied_slice
returns-in_err-passing c =
    let out = c.args.out.now in
    let e : c.from_residual.result ≡ Err c.in_err-passing.field-0.0 = search rules in
    ap (λ (r : Result ⊤ Refusal). outcome r out) e ∙ sym (call_refused (refused out) (copied_in out) c.args.s.now c.in_err-passing.ensures.refused)

pub returns : goal.returns
unfolding copied_slice
returns c =
    let out = c.args.out.now in
    let p = c.in_ok-passing.ensures in
    c.copy_passing.ensures ∙ sym (call_passed (refused out) (copied_in out) c.args.s.now p.head p.bytes p.faultless)
