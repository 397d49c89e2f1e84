-- An accepted move's packet is good, and its target lies in the table.
use mathlib.Core.Path.{refl, sym, ap, ◌∙◌}
use native.Mathlib.Omega.{arith}
use Rattle.board.proofs.BoardLaws.{slots_most, slot_fits}
use Rattle.table.specs.Calls.{outcome}
use Rattle.judging.proofs.NamedLaws.{named_good}
use Rattle.judging.proofs.VerdictLaws.{passed_on, number_not_zero, granted}
use Rattle.judging.proofs.TargetLaws.{target_within, target_apart, hops_fit}
use Rattle.router.specs.Move.{move_answer}
use Rattle.router.proofs.MovedByVerdict.{verdict_refused, verdict-out, verdict_on}
use Rattle.router.proofs.moving.move_in_table.Goals as goal

pub returns-in_err-onward : goal.returns-in_err-onward
returns-in_err-onward c =
    passed_on (λ r. outcome (move_answer r) c.args.t.now) c.from_residual.result _ c.from_residual.ensures.1
    ∙ sym (verdict_refused _ _ _ _ _ c.in_err-onward.ensures (number_not_zero _))

pub hand_out-requires-clause-slot_bound : goal.hand_out-requires-clause-slot_bound
hand_out-requires-clause-slot_bound c =
    (granted _ _ _ _ _ (rw c.in-Leaves.is at c.in_ok-onward.ensures) refl).named.inside

pub hand_out-requires-clause-delivered_lt_taken : goal.hand_out-requires-clause-delivered_lt_taken
hand_out-requires-clause-delivered_lt_taken c =
    (named_good (granted _ _ _ _ _ (rw c.in-Leaves.is at c.in_ok-onward.ensures) refl).named c.requires.board).due

pub returns-in-Leaves : goal.returns-in-Leaves
returns-in-Leaves c =
    c.hand_out.ensures ∙ sym (verdict-out _ _ _ _ _ (rw c.in-Leaves.is at c.in_ok-onward.ensures) refl refl)

pub carry-requires : goal.carry-requires
carry-requires c =
    let e = rw c.in-Into.is at c.in_ok-onward.ensures in
    let g = c.requires.board in
    record {
      from_in_bounds = slot_fits c.requires _ (granted _ _ _ _ _ e refl).named.inside;
      to_in_bounds = slot_fits c.requires _ (target_within _ _ _ _ _ e refl g refl);
      apart = target_apart _ _ _ _ _ e refl g refl;
      more_bound = hops_fit _ _ _ _ _ e refl g;
    }

pub overflow_cast-result : goal.overflow_cast-result
overflow_cast-result c =
    let e = rw c.in-Into.is at c.in_ok-onward.ensures in
    let g = c.requires.board in
    omega (arith, target_within _ _ _ _ _ e refl g refl, slots_most _ g)

pub returns-in-Into : goal.returns-in-Into
returns-in-Into c =
    ap (outcome _) c.carry.ensures ∙ sym (verdict_on _ _ _ _ _ (rw c.in-Into.is at c.in_ok-onward.ensures) refl refl)
