-- Past the code, the slot and the right of way, what the rule's answer comes to is the verdict.
use mathlib.Core.Path.{◌≡◌, sym, ap, ◌∙◌}
use mathlib.Core.Bool.{not}
use native.Mathlib.Omega.{arith}
use Rattle.network.proofs.Tests.{cond_true, held, failed}
use Rattle.board.specs.Board.{net_of}
use Rattle.board.proofs.BoardLaws.{layout_laws, slot_fits}
use Rattle.table.specs.Refusals.{number_of}
use Rattle.way.specs.Way.{gives_way}
use Rattle.judging.specs.Moves.{lead_of, move_due}
use Rattle.judging.specs.Verdicts.{ahead, verdict_of}
use Rattle.judging.proofs.NamedLaws.{due_named, targets}
use Rattle.judging.proofs.VerdictLaws.{passed_on, number_not_zero, due_refuses, slot_refuses, way_refuses, way_passes}
use Rattle.judging.proofs.moves.judge_move.Goals as goal
use Rattle.judging.proofs.moves.judge_move.Goals.{After-rule-lead}

-- the rule is asked of the packet's own place and destination
lead_is : (c : After-rule-lead) → let a = c.args in c.rule-lead.result ≡ lead_of a.t.now.head.board a.t.now.bytes.now a.slot a.code
lead_is c =
    c.rule-lead.ensures ∙ (λ i. (net_of c.args.t.now.head.board).rule (c.place_of-here.ensures i) (c.slot_byte-destination.ensures i) c.args.code)

pub returns-then-not-is_code : goal.returns-then-not-is_code
unfolding move_due number_of
returns-then-not-is_code c =
    let t = c.args.t.now in
    let due = cond_true _ _ (ap not (failed c.is_code.ensures c.if-not-is_code.true)) in
    sym (due_refuses t.head t.bytes.now c.args.slot c.args.code 2 (sym due) (λ e. omega arith))

pub returns-in_err-slot_due : goal.returns-in_err-slot_due
returns-in_err-slot_due c =
    let t = c.args.t.now in
    let known = held c.is_code.ensures c.if-not-is_code.false in
    let r = slot_refuses t.head t.bytes.now c.args.slot c.args.code known _ c.in_err-slot_due.ensures (number_not_zero _) in
    passed_on verdict_of c.from_residual.result _ c.from_residual.ensures.1 ∙ sym r

pub place_of-here-requires-clause-slot_bound : goal.place_of-here-requires-clause-slot_bound
place_of-here-requires-clause-slot_bound c = (due_named _ _ _ (sym c.in_ok-slot_due.ensures)).inside

pub slot_byte-destination-requires-clause-k_in_bounds : goal.slot_byte-destination-requires-clause-k_in_bounds
slot_byte-destination-requires-clause-k_in_bounds c = slot_fits c.args.t.now.sized _ (due_named _ _ _ (sym c.in_ok-slot_due.ensures)).inside

pub gives_way-requires : goal.gives_way-requires
gives_way-requires c =
    rw c.place_of-here.ensures ((layout_laws _ c.args.t.now.sized.board).on_net _ (due_named _ _ _ (sym c.in_ok-slot_due.ensures)).inside)

pub returns-then-gives_way : goal.returns-then-gives_way
unfolding number_of
returns-then-gives_way c =
    let t = c.args.t.now in
    let known = held c.is_code.ensures c.if-not-is_code.false in
    let named = due_named _ _ _ (sym c.in_ok-slot_due.ensures) in
    let way = c.gives_way.ensures ∙ (λ i. gives_way t.head t.bytes.now (c.place_of-here.ensures i) c.args.code (lead_is (goal.at.returns-then-gives_way c).After-rule-lead i)) in
    sym (way_refuses t.head t.bytes.now c.args.slot c.args.code known named (held way c.if-gives_way.true))

pub go_ahead-requires : goal.go_ahead-requires
go_ahead-requires c =
    let named = due_named _ _ _ (sym c.in_ok-slot_due.ensures) in
    rw (lead_is (goal.at.go_ahead-requires c).After-rule-lead, c.place_of-here.ensures) (targets named c.args.t.now.sized.board c.args.code)

pub returns : goal.returns
returns c =
    let t = c.args.t.now in
    let known = held c.is_code.ensures c.if-not-is_code.false in
    let named = due_named _ _ _ (sym c.in_ok-slot_due.ensures) in
    let lead = lead_is (goal.at.returns c).After-rule-lead in
    let way = c.gives_way.ensures ∙ (λ i. gives_way t.head t.bytes.now (c.place_of-here.ensures i) c.args.code (lead i)) in
    c.go_ahead.ensures
    ∙ (λ i. ahead t.head.board t.bytes.now (c.place_of-here.ensures i) (lead i))
    ∙ sym (way_passes t.head t.bytes.now c.args.slot c.args.code known named (failed way c.if-gives_way.false))
