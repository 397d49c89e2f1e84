-- When a move (slot, code) is refused, under a good trailer: 2, 3, 4, 5, 12, 6. The code is the chooser's proposal and is trusted in nothing.
-- Assumes nothing.
use Rattle.std.specs.Prelude.{ℕ, Bool, true, false, not, List, [], ◌∷◌, ◌++◌}
use Rattle.network.specs.declared.Place.{Place}
use Rattle.network.specs.declared.Lead.{Lead}
use Rattle.network.specs.declared.Lead.TheVariants.{Hop, Turn, Out, NotOffered}
use Rattle.network.specs.Net.{at}
use Rattle.network.specs.Packet.{offer}
use Rattle.network.specs.Search.{is_at}
use Rattle.board.specs.declared.Board.{Board}
use Rattle.board.specs.Board.{net_of}
use Rattle.board.specs.Layout.{layout_of}
use Rattle.trailer.specs.declared.Head.{Head}
use Rattle.table.specs.Refusals.{Row, row, first_due, out_of_range, not_offered, no_room, must_give_way}
use Rattle.table.specs.Packets.{item_in}
use Rattle.table.specs.Queues.{room_at}
use Rattle.way.specs.Way.{gives_way}
use Rattle.judging.specs.Named.{slot_rows}

-- where the rule leads the packet of a slot
abbrev pub lead_of : Board → List ℕ → ℕ → ℕ → Lead
lead_of b t k code = offer (net_of b) (item_in b t k) code

-- the rule doesn't offer the move; the target queue has no empty slot
abbrev pub barred : Lead → Bool
barred (Hop n) = false
barred (Turn k) = false
barred Out = false
barred NotOffered = true

abbrev pub blocked : Board → List ℕ → Place → Lead → Bool
blocked b t here (Hop n) = not (is_at (room_at b t (at n here.kind)))
blocked b t here (Turn k) = not (is_at (room_at b t (at here.node k)))
blocked b t here Out = false
blocked b t here NotOffered = false

abbrev pub lead_rows : Head → List ℕ → Place → ℕ → Lead → List Row
lead_rows h t here code lead =
    row not_offered (barred lead)
    ∷ row must_give_way (gives_way h t here code lead)
    ∷ row no_room (blocked h.board t here lead)
    ∷ []

abbrev pub move_rows : Head → List ℕ → ℕ → ℕ → List Row
move_rows h t k code =
    row out_of_range (not ((net_of h.board).known code))
    ∷ (slot_rows h t k ++ lead_rows h t ((layout_of h.board).place_of k) code (lead_of h.board t k code))

-- the first refusal that is due for a move; 0 where it would be accepted
unfoldable pub move_due : Head → List ℕ → ℕ → ℕ → ℕ
move_due h t k code = first_due (move_rows h t k code)
