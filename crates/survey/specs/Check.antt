-- Full check: 1; else it names its first fault as 10 with a place: the lowest spoiled slot; else the lowest held slot whose serial a lower
-- held slot has; else S, where taken less delivered isn't the number of held slots.
-- Assumes nothing.
use Rattle.std.specs.Prelude.{ℕ, zero, suc, ◌-◌, List, [], ◌∷◌, Bool, false, not, cond, ◌&&◌, ◌||◌, eqb, length, drop, Option, Some, None, Result, Ok, Err, ⊤}
use Rattle.network.specs.Search.{lowest_with}
use Rattle.slots.specs.Bytes.{le32}
use Rattle.slots.specs.Slots.{slot_at}
use Rattle.board.specs.Layout.{layout_of}
use Rattle.trailer.specs.declared.Head.{Head}
use Rattle.trailer.specs.Trailer.{trailer_of}
use Rattle.table.specs.declared.refusals.Refusal.{Refusal}
use Rattle.table.specs.declared.refusals.Refusal.TheVariants.{Trailer, Fault}
use Rattle.table.specs.Refusals.{number_of, place_of}
use Rattle.table.specs.Packets.{good_at}
use Rattle.table.specs.Held.{held_at, held_below}

abbrev pub serial_at : List ℕ → ℕ → ℕ
serial_at t k = le32 (slot_at t k) 4

abbrev pub spoiled_at : Head → List ℕ → ℕ → Bool
spoiled_at h t k = held_at t k && not (good_at h t k)

-- a held slot below n has this serial
abbrev pub has_serial : List ℕ → ℕ → ℕ → Bool
has_serial t serial zero = false
has_serial t serial (suc n) = (held_at t n && eqb (serial_at t n) serial) || has_serial t serial n

abbrev pub repeats_at : List ℕ → ℕ → Bool
repeats_at t k = held_at t k && has_serial t (serial_at t k) k

-- the three searches
unfoldable pub first_spoiled : Head → List ℕ → Option ℕ
first_spoiled h t = lowest_with (spoiled_at h t) 0 (layout_of h.board).size

unfoldable pub first_repeat : Head → List ℕ → Option ℕ
first_repeat h t = lowest_with (repeats_at t) 0 (layout_of h.board).size

unfoldable pub miscount : Head → List ℕ → Option ℕ
miscount h t =
    let size = (layout_of h.board).size in
    cond (eqb (h.taken - h.delivered) (held_below t size)) None (Some size)

abbrev pub faults : Head → List ℕ → List (Option ℕ)
faults h t = first_spoiled h t ∷ first_repeat h t ∷ miscount h t ∷ []

-- the first search that finds something answers
abbrev pub or_else : Option ℕ → Option ℕ → Option ℕ
or_else (Some place) next = Some place
or_else None next = next

abbrev pub first_at : List (Option ℕ) → Option ℕ
first_at [] = None
first_at (r ∷ rs) = or_else r (first_at rs)

-- the first fault of a table under a good trailer
unfoldable pub fault_in : Head → List ℕ → Option ℕ
fault_in h t = first_at (faults h t)

-- ten, then: what a call answers that needs a table which passes
abbrev pub fault_or : {A : Type 0} → (ℕ → A) → A → Option ℕ → A
fault_or fault passes (Some place) = fault place
fault_or fault passes None = passes

abbrev pub unless_fault : {A : Type 0} → (ℕ → A) → (Head → List ℕ → A) → Head → List ℕ → A
unless_fault fault passes h t = fault_or fault (passes h t) (fault_in h t)

-- and one before: with a good trailer, what f says of the table
abbrev pub read_by : {A : Type 0} → List ℕ → A → (Head → List ℕ → A) → Option Head → A
read_by s bad f None = bad
read_by s bad f (Some h) = f h (drop (length s - h.size) s)

abbrev pub on_passing : {A : Type 0} → List ℕ → A → (ℕ → A) → (Head → List ℕ → A) → A
on_passing s bad fault passes = read_by s bad (unless_fault fault passes) (trailer_of s)

unfoldable pub checked_in : Head → List ℕ → Result ⊤ Refusal
checked_in = unless_fault (λ place. Err (Fault place)) (λ h t. Ok tt)

unfoldable pub checked_slice : List ℕ → Result ⊤ Refusal
checked_slice s = on_passing s (Err Trailer) (λ place. Err (Fault place)) (λ h t. Ok tt)

-- the paper's number and place of each answer
pub record PlacedAnswer : Type 0 where
  pub number : ℕ
  pub place : ℕ

abbrev pub check_answer : Result ⊤ Refusal → PlacedAnswer
check_answer (Ok done) = record { number = 0; place = 0 }
check_answer (Err refusal) = record { number = number_of refusal; place = place_of refusal }
