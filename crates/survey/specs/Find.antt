-- Find: 1, 10, then 11. Otherwise the lowest slot, and for it the lowest code, whose move would be accepted.
-- Assumes nothing.
use Rattle.std.specs.Prelude.{ℕ, suc, List, Bool, eqb, Option, Some, None, Result, Ok, Err}
use Rattle.network.specs.Search.{lowest_with, is_at, number_at}
use Rattle.board.specs.Board.{net_of}
use Rattle.board.specs.Layout.{layout_of}
use Rattle.trailer.specs.declared.Head.{Head}
use Rattle.table.specs.declared.refusals.Refusal.{Refusal}
use Rattle.table.specs.declared.refusals.Refusal.TheVariants.{Trailer, Fault, NothingHeld}
use Rattle.table.specs.Refusals.{number_of, place_of}
use Rattle.judging.specs.Moves.{move_due}
use Rattle.survey.specs.declared.finding.Move.{Move}
use Rattle.survey.specs.Check.{on_passing}

-- would that move be accepted?
abbrev pub accepts : Head → List ℕ → ℕ → ℕ → Bool
accepts h t slot code = eqb (move_due h t slot code) 0

-- the lowest code for a slot, of all that there are
unfoldable pub first_code : Head → List ℕ → ℕ → Option ℕ
first_code h t slot = lowest_with (accepts h t slot) 0 (suc (net_of h.board).last)

abbrev pub movable : Head → List ℕ → ℕ → Bool
movable h t slot = is_at (first_code h t slot)

-- the lowest slot that has one
abbrev pub move_at : Head → List ℕ → Option ℕ → Result Move Refusal
move_at h t (Some slot) = Ok (record { slot = slot; code = number_at (first_code h t slot) })
move_at h t None = Err NothingHeld

unfoldable pub found_in : Head → List ℕ → Result Move Refusal
found_in h t = move_at h t (lowest_with (movable h t) 0 (layout_of h.board).size)

unfoldable pub found_slice : List ℕ → Result Move Refusal
found_slice s = on_passing s (Err Trailer) (λ place. Err (Fault place)) found_in

-- the paper's number and values of each answer; where the check failed, its place is the slot
pub record FindAnswer : Type 0 where
  pub number : ℕ
  pub slot : ℕ
  pub code : ℕ

abbrev pub find_answer : Result Move Refusal → FindAnswer
find_answer (Ok m) = record { number = 0; slot = m.slot; code = m.code }
find_answer (Err refusal) = record { number = number_of refusal; slot = place_of refusal; code = 0 }
