-- The lowest-numbered empty slot of a queue (document 01, "The rule of moves"), and how many of its slots are empty (document 02, order 1).
-- Assumes nothing.
use Rattle.std.specs.Prelude.{ℕ, List, Bool, Option}
use Rattle.network.specs.declared.Place.{Place}
use Rattle.network.specs.Search.{lowest_with, count_with}
use Rattle.slots.specs.Slots.{slot_at, zeros}
use Rattle.board.specs.declared.Board.{Board}
use Rattle.board.specs.Layout.{layout_of}

abbrev pub empty_at : List ℕ → ℕ → Bool
empty_at t k = zeros (slot_at t k)

unfoldable pub room_at : Board → List ℕ → Place → Option ℕ
room_at b t p = lowest_with (empty_at t) ((layout_of b).first p) ((layout_of b).room p.kind)

-- counted slot by slot, whatever the search finds
unfoldable pub empties_at : Board → List ℕ → Place → ℕ
empties_at b t p = count_with (empty_at t) ((layout_of b).first p) ((layout_of b).room p.kind)
