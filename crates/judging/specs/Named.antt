-- The slot that a call names: 2 where there is no such slot, 3 where it is empty, 4 where it is spoiled.
-- Assumes nothing.
use Rattle.std.specs.Prelude.{ℕ, not, List, [], ◌∷◌, leb}
use Rattle.board.specs.Layout.{layout_of}
use Rattle.trailer.specs.declared.Head.{Head}
use Rattle.table.specs.Refusals.{Row, row, first_due, out_of_range, slot_empty, slot_spoiled}
use Rattle.table.specs.Packets.{good_at}
use Rattle.table.specs.Queues.{empty_at}

abbrev pub slot_rows : Head → List ℕ → ℕ → List Row
slot_rows h t k =
    row out_of_range (leb (layout_of h.board).size k)
    ∷ row slot_empty (empty_at t k)
    ∷ row slot_spoiled (not (good_at h t k))
    ∷ []

-- the first that is due; 0 where the slot holds a good packet
unfoldable pub slot_due : Head → List ℕ → ℕ → ℕ
slot_due h t k = first_due (slot_rows h t k)
