-- Move (slot, code): 1, 2, 3, 4, 5, 12 (document 02, order 3), 6. An accepted move puts the packet into the lowest empty slot of its target queue and
-- leaves the old slot; delivery hands out its 16 bytes and adds one to delivered. The answer tells how many slots are then empty in the queue that the
-- packet went into or, delivered, left (order 1).
-- Assumes nothing.
use Rattle.std.specs.Prelude.{ℕ, ◌+◌, ◌-◌, List, Result, Ok, Err}
use Rattle.network.specs.declared.Place.{Place}
use Rattle.network.specs.declared.Lead.{Lead}
use Rattle.network.specs.declared.Lead.TheVariants.{Hop, Turn, Out, NotOffered}
use Rattle.network.specs.Net.{at}
use Rattle.network.specs.Search.{number_at}
use Rattle.slots.specs.Slots.{slot_at, empty_slot}
use Rattle.board.specs.Layout.{layout_of}
use Rattle.trailer.specs.declared.Head.{Head}
use Rattle.trailer.specs.Trailer.{with_delivered}
use Rattle.table.specs.declared.refusals.Refusal.{Refusal}
use Rattle.table.specs.Refusals.{not_offered, number_of}
use Rattle.table.specs.Queues.{room_at, empties_at}
use Rattle.table.specs.Carriage.{vacated, carried}
use Rattle.table.specs.Calls.{Outcome, outcome, answered, on_table}
use Rattle.judging.specs.Moves.{lead_of, move_rows}
use Rattle.router.specs.declared.moving.Moved.{Moved}

-- the number of the refusal that is due, or 0 and what was done: the slot that the packet went to, or the 16 bytes handed out, and how many slots are left
pub record MoveAnswer : Type 0 where
  pub number : ℕ
  pub slot : ℕ
  pub packet : List ℕ
  pub left : ℕ

abbrev pub refusal : ℕ → MoveAnswer
refusal number = record { number = number; slot = 0; packet = empty_slot; left = 0 }

abbrev pub move_answer : Result Moved Refusal → MoveAnswer
move_answer (Ok m) = record { number = 0; slot = m.slot; packet = m.packet; left = m.left }
move_answer (Err e) = refusal (number_of e)

-- what an accepted move does: the packet goes to a queue, with no hop more or one, where it uses one of the empty slots; or out, and its slot is
-- one more empty one of its queue
unfoldable pub gone : Head → List ℕ → ℕ → Place → ℕ → Outcome MoveAnswer (List ℕ)
gone h t k target more =
    let to = number_at (room_at h.board t target) in
    outcome record { number = 0; slot = to; packet = empty_slot; left = empties_at h.board t target - 1 } (carried h.board t k to more)

unfoldable pub handed_out : Head → List ℕ → ℕ → Outcome MoveAnswer (List ℕ)
handed_out h t k =
    let here = (layout_of h.board).place_of k in
    outcome record { number = 0; slot = 0; packet = slot_at t k; left = empties_at h.board t here + 1 }
    (with_delivered (vacated h.board t k) (h.delivered + 1))

abbrev pub led_on : Head → List ℕ → ℕ → Place → Lead → Outcome MoveAnswer (List ℕ)
led_on h t k here (Hop n) = gone h t k (at n here.kind) 1
led_on h t k here (Turn l) = gone h t k (at here.node l) 0
led_on h t k here Out = handed_out h t k
led_on h t k here NotOffered = outcome (refusal not_offered) t

unfoldable pub moved_in : Head → List ℕ → ℕ → ℕ → Outcome MoveAnswer (List ℕ)
moved_in h t k code = answered (move_rows h t k code) refusal t (led_on h t k ((layout_of h.board).place_of k) (lead_of h.board t k code))

unfoldable pub moved_slice : List ℕ → ℕ → ℕ → Outcome MoveAnswer (List ℕ)
moved_slice s k code = on_table s refusal (λ h t. moved_in h t k code)
