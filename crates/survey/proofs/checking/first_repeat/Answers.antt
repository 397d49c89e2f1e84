use Prim.Native.Nat.{◌-◌}
use mathlib.Core.Path.{◌≡◌, sym, ap, ◌∙◌}
use native.Mathlib.Omega.{arith}
use native.Mathlib.Nat.{sub-zero}
use Rattle.network.proofs.Tests.{held, cond_true}
use Rattle.network.specs.Search.{lowest_with}
use Rattle.network.proofs.SearchLaws.{lowest_step}
use Rattle.survey.specs.Check.{repeats_at, first_repeat}
use Rattle.survey.proofs.MetLaws.{met_start}
use Rattle.survey.proofs.checking.first_repeat.Goals as goal

pub loop-k-init : goal.loop-k-init
loop-k-init c =
    let t = c.args.t.now.bytes.now in
    (met_start t, ap (lowest_with (repeats_at t) 0) (sym (sub-zero c.slots_of-n.result)))

pub returns-then-repeats : goal.returns-then-repeats
unfolding first_repeat
returns-then-repeats c =
    let at = c.loop-k in
    sym (ap (lowest_with _ 0) (sym c.slots_of-n.ensures) ∙ at.invariant.1 ∙ lowest_step _ at.k _ c.loop-k-test.true
    ∙ cond_true _ _ (held c.repeats.ensures.value c.if-repeats.true))

pub returns : goal.returns
unfolding first_repeat
returns c =
    let at = c.loop-k in
    let n = c.slots_of-n in
    let e : n.result - at.k ≡ 0 = omega arith in
    sym (ap (lowest_with _ 0) (sym n.ensures) ∙ at.invariant.1 ∙ ap (lowest_with _ at.k) e)
