-- Take in (source, destination, payload): 1, 2, 7, 6. The waiting slot used is the source's. The serial is the old taken count; taken
-- rises by one; hops 0. The answer tells how many slots of that queue are then empty (document 02, order 1).
-- Assumes nothing.
use Rattle.std.specs.Prelude.{ℕ, ◌+◌, ◌-◌, List, ◌∷◌, ◌++◌, Result, Ok, Err}
use Rattle.network.specs.Search.{number_at}
use Rattle.slots.specs.Bytes.{bytes32}
use Rattle.slots.specs.Slots.{with_slot}
use Rattle.trailer.specs.declared.Head.{Head}
use Rattle.trailer.specs.Trailer.{with_taken}
use Rattle.table.specs.declared.refusals.Refusal.{Refusal}
use Rattle.table.specs.Refusals.{number_of}
use Rattle.table.specs.Calls.{Outcome, outcome, answered, on_table}
use Rattle.judging.specs.Takings.{waiting_room, waiting_empties, take_rows}
use Rattle.router.specs.declared.taking.Taken.{Taken}

-- the number of the refusal that is due, or 0 and what was done: the slot that the packet went to, its serial, and how many slots are left
pub record TakeAnswer : Type 0 where
  pub number : ℕ
  pub slot : ℕ
  pub serial : ℕ
  pub left : ℕ

abbrev pub refusal : ℕ → TakeAnswer
refusal number = record { number = number; slot = 0; serial = 0; left = 0 }

abbrev pub take_answer : Result Taken Refusal → TakeAnswer
take_answer (Ok a) = record { number = 0; slot = a.slot; serial = a.serial; left = a.left }
take_answer (Err e) = refusal (number_of e)

-- mark 1, source, destination, hops 0, serial, payload
unfoldable pub new_record : ℕ → ℕ → ℕ → List ℕ → List ℕ
new_record source destination serial payload = 1 ∷ source ∷ destination ∷ 0 ∷ (bytes32 serial ++ payload)

-- what an accepted taking in does, into a slot
unfoldable pub took_in : Head → List ℕ → ℕ → ℕ → List ℕ → ℕ → Outcome TakeAnswer (List ℕ)
took_in h t source destination payload slot =
    outcome record { number = 0; slot = slot; serial = h.taken; left = waiting_empties h t source - 1 }
    (with_taken (with_slot t slot (new_record source destination h.taken payload)) (h.taken + 1))

unfoldable pub taken_in : Head → List ℕ → ℕ → ℕ → List ℕ → Outcome TakeAnswer (List ℕ)
taken_in h t source destination payload =
    answered (take_rows h t source destination) refusal t (took_in h t source destination payload (number_at (waiting_room h t source)))

unfoldable pub taken_slice : List ℕ → ℕ → ℕ → List ℕ → Outcome TakeAnswer (List ℕ)
taken_slice s source destination payload = on_table s refusal (λ h t. taken_in h t source destination payload)
