-- When a taking in (source, destination) is refused, under a good trailer: 2, 7, 6. The waiting slot asked for is the source's.
-- Assumes nothing.
use Rattle.std.specs.Prelude.{ℕ, not, List, [], ◌∷◌, eqb, Option}
use Rattle.network.specs.declared.Kind.TheVariants.{Waiting}
use Rattle.network.specs.Net.{at}
use Rattle.network.specs.Search.{is_at}
use Rattle.board.specs.Board.{net_of}
use Rattle.trailer.specs.declared.Head.{Head}
use Rattle.table.specs.Refusals.{Row, row, out_of_range, all_taken, no_room}
use Rattle.table.specs.Queues.{room_at, empties_at}

-- the source's waiting slot, where it is empty
abbrev pub waiting_room : Head → List ℕ → ℕ → Option ℕ
waiting_room h t source = room_at h.board t (at source Waiting)

-- how many slots of that queue are empty
abbrev pub waiting_empties : Head → List ℕ → ℕ → ℕ
waiting_empties h t source = empties_at h.board t (at source Waiting)

abbrev pub take_rows : Head → List ℕ → ℕ → ℕ → List Row
take_rows h t source destination =
    row out_of_range (not ((net_of h.board).valid source))
    ∷ row out_of_range (not ((net_of h.board).valid destination))
    ∷ row all_taken (eqb h.taken 4294967295)
    ∷ row no_room (not (is_at (waiting_room h t source)))
    ∷ []
