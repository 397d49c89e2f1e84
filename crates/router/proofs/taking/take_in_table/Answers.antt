-- An accepting verdict has its slot in the table.
use Rattle.std.specs.Prelude.{Some}
use Prim.Native.Nat.{ℕ, ◌+◌, ◌<◌}
use mathlib.Core.Path.{◌≡◌, refl, sym, ◌∙◌}
use mathlib.Core.List.{List}
use native.Mathlib.Omega.{arith}
use Rattle.slots.specs.Slots.{with_slot}
use Rattle.board.specs.Board.{GoodBoard}
use Rattle.board.specs.Layout.{layout_of}
use Rattle.board.proofs.BoardLaws.{slots_most, slot_fits}
use Rattle.trailer.specs.declared.Head.{Head}
use Rattle.trailer.specs.Trailer.{with_taken}
use Rattle.table.specs.Calls.{outcome}
use Rattle.judging.specs.Takings.{waiting_empties}
use Rattle.judging.specs.Verdicts.{Verdict, into, take_verdict}
use Rattle.judging.proofs.VerdictLaws.{passed_on, number_not_zero}
use Rattle.judging.proofs.WelcomeLaws.{Welcome, take_due, due_welcome, berth, berth_within, take-number, take_done}
use Rattle.router.specs.TakeIn.{take_answer, new_record, took_in, taken_in}
use Rattle.router.proofs.TakeLaws.{taken_refused, taken_done}
use Rattle.router.proofs.taking.take_in_table.Goals as goal

-- what an accepting verdict says of the answer
module _ (h : Head) (t : List ℕ) (source destination : ℕ) (v : Verdict) (e : v ≡ take_verdict h t source destination) (z : v.number ≡ 0) where
  none : take_due h t source destination ≡ 0
  none = sym (take-number h t source destination v e) ∙ z

  welcome : Welcome h t source destination
  welcome = due_welcome h t source destination none

  into_berth : v ≡ into (Some (berth h t source destination welcome)) (waiting_empties h t source) 0
  into_berth = take_done h t source destination v e none

  slot_in : GoodBoard h.board → v.slot < (layout_of h.board).size
  slot_in g = rw into_berth (berth_within h t source destination welcome g)

  ends_taken : (payload p u w : List ℕ) → p ≡ new_record source destination h.taken payload → u ≡ with_slot t v.slot p
      → w ≡ with_taken u (h.taken + 1)
      → outcome record { number = 0; slot = v.slot; serial = h.taken; left = v.left } w ≡ taken_in h t source destination payload
  unfolding took_in
  ends_taken payload p u w f g k = rw (k, g, f, into_berth) (sym (taken_done h t source destination payload none))

pub returns-in_err-berth : goal.returns-in_err-berth
returns-in_err-berth c =
    passed_on (λ r. outcome (take_answer r) c.args.t.now) c.from_residual.result _ c.from_residual.ensures.1
    ∙ sym (taken_refused _ _ _ _ _ (sym (take-number _ _ _ _ _ c.in_err-berth.ensures)) (number_not_zero _))

pub write_slot-requires : goal.write_slot-requires
write_slot-requires c =
    slot_fits c.requires _ (slot_in _ _ _ _ _ c.in_ok-berth.ensures refl c.requires.board)

pub overflow_add-next : goal.overflow_add-next
overflow_add-next c =
    omega (arith, (welcome _ _ _ _ _ c.in_ok-berth.ensures refl).more)

pub overflow_cast-result : goal.overflow_cast-result
overflow_cast-result c =
    omega (arith, slot_in _ _ _ _ _ c.in_ok-berth.ensures refl c.requires.board, slots_most _ c.requires.board)

pub returns : goal.returns
returns c =
    ends_taken _ _ _ _ _ c.in_ok-berth.ensures refl _ _ _ _ c.new_record-packet.ensures c.write_slot.ensures c.put_count.ensures
