-- A named slot's payload is 8 bytes from its byte 8.
use Prim.Native.Nat.{ℕ, ◌+◌, ◌-◌, ◌*◌}
use mathlib.Core.Path.{◌≡◌, sym, ap, ◌∙◌}
use mathlib.Core.List.{List}
use native.Mathlib.Omega.{arith}
use lib.ListN.{length}
use Rattle.slots.specs.Bytes.{part}
use Rattle.slots.specs.Slots.{slot_at}
use Rattle.slots.proofs.Parts.{lent_part}
use Rattle.slots.proofs.SlotLaws.{part-slot_at}
use Rattle.board.proofs.BoardLaws.{slot_fits}
use Rattle.table.specs.Calls.{Outcome}
use Rattle.judging.proofs.NamedLaws.{due_named}
use Rattle.judging.proofs.VerdictLaws.{passed_on, number_not_zero}
use Rattle.router.specs.ReadPayload.{Reading, read_answer, further}
use Rattle.router.proofs.ReadLaws.{read_refused, read_done, offset-done, slice_answers, slice_offset, further-both}
use Rattle.router.proofs.reading.read_payload.Goals as goal

pub returns-in_err-slot_due-clause-answer : goal.returns-in_err-slot_due-clause-answer
returns-in_err-slot_due-clause-answer c =
    passed_on read_answer c.from_residual-in_err-slot_due.result _ c.from_residual-in_err-slot_due.ensures.1
    ∙ sym (ap (λ (o : Outcome Reading (List ℕ)). o.answer) (read_refused _ _ _ (sym c.in_err-slot_due.ensures) (number_not_zero _)))
    ∙ sym (slice_answers c.args.s.now c.args.slot c.in_ok-t.ensures.ok_part c.table_in.ensures.head c.table_in.ensures.bytes)

pub slice_bounds-result-end : goal.slice_bounds-result-end
slice_bounds-result-end c =
    let t = c.in_ok-t.t in
    omega (arith, slot_fits t.sized _ (due_named _ _ _ (sym c.in_ok-slot_due.ensures)).inside)

pub returns-clause-answer : goal.returns-clause-answer
returns-clause-answer c =
    let t = c.in_ok-t.t in
    let k : ℕ = c.args.slot in
    let p : part t.bytes.now (16 * k + 8) 8 ≡ part (slot_at t.bytes.now k) 8 8 = sym (part-slot_at t.bytes.now k 8 8 (omega arith)) in
    rw (lent_part t.bytes.now (16 * k + 8) 8, p)
    (sym (ap (λ (o : Outcome Reading (List ℕ)). o.answer) (read_done t.head t.bytes.now k (sym c.in_ok-slot_due.ensures)))
    ∙ sym (slice_answers c.args.s.now k c.in_ok-t.ensures.ok_part c.table_in.ensures.head c.table_in.ensures.bytes))

pub returns-clause-place : goal.returns-clause-place
returns-clause-place c =
    let t = c.in_ok-t.t in
    let k : ℕ = c.args.slot in
    let s = c.args.s in
    let start : ℕ = length s.now - t.head.size in
    let place = rw c.in_ok-t.ensures.ok_part at c.table_in.ensures.place in
    ap (λ (p : ℕ × ℕ). further p (16 * k + 8)) place
    ∙ further-both s.ref_ptr start (16 * k + 8)
    ∙ ap (further s.ref_ptr)
    (sym (slice_offset s.now k c.in_ok-t.ensures.ok_part c.table_in.ensures.head c.table_in.ensures.bytes ∙ ap (λ (n : ℕ). n + start) (offset-done t.head t.bytes.now k (sym c.in_ok-slot_due.ensures))))
