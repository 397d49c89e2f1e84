-- Slots read as packets in places: mark, source, destination, hops made, serial, payload (document 01, "Slot").
-- Assumes nothing.
use Rattle.std.specs.Prelude.{ℕ, ◌+◌, List, [], Bool, cond, ◌&&◌, eqb, get_or}
use Rattle.network.specs.declared.Place.{Place}
use Rattle.network.specs.Packet.{Packet, Item, good}
use Rattle.network.specs.View.{Slot, empty, held, View, item_at}
use Rattle.slots.specs.Bytes.{part, le32}
use Rattle.slots.specs.Slots.{slot_at, zeros}
use Rattle.board.specs.declared.Board.{Board}
use Rattle.board.specs.Board.{net_of}
use Rattle.board.specs.Layout.{layout_of}
use Rattle.trailer.specs.declared.Head.{Head}
use Rattle.table.specs.declared.packets.Fields.{Fields}

-- what 16 bytes say
abbrev pub packet_of : List ℕ → Packet
packet_of v = record {
  mark = get_or v 0 0;
  source = get_or v 1 0;
  destination = get_or v 2 0;
  hops = get_or v 3 0;
  serial = le32 v 4;
  payload = part v 8 8;
}

-- a slot is empty where it is 16 zeros, and else held
abbrev pub slot_of : List ℕ → Slot
slot_of v = cond (zeros v) empty (held (packet_of v))

abbrev pub view_of : Head → List ℕ → View
view_of h t = record { at = λ k. slot_of (slot_at t k); taken = h.taken; delivered = h.delivered }

-- the packet of slot k in its place, and whether it is good
abbrev pub item_in : Board → List ℕ → ℕ → Item
item_in b t k = item_at (layout_of b) k (packet_of (slot_at t k))

unfoldable pub good_at : Head → List ℕ → ℕ → Bool
good_at h t k = good (net_of h.board) h.taken h.delivered (item_in h.board t k)

-- the same without the payload, which no test reads
abbrev pub fields_of : List ℕ → Fields
fields_of v = record { mark = get_or v 0 0; source = get_or v 1 0; destination = get_or v 2 0; hops = get_or v 3 0; serial = le32 v 4 }

abbrev pub packet_by : Fields → Packet
packet_by f = record { mark = f.mark; source = f.source; destination = f.destination; hops = f.hops; serial = f.serial; payload = [] }

abbrev pub item_by : Place → Fields → Item
item_by here f = record { place = here; packet = packet_by f }

unfoldable pub course_ok : Board → ℕ → Fields → Bool
course_ok b here f =
    eqb f.hops ((net_of b).distance f.source here)
    && eqb (f.hops + (net_of b).distance here f.destination) ((net_of b).distance f.source f.destination)
