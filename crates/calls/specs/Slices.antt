-- A lent slice as document 01 reads it: its trailer's head, its table, its slots and their places. Where the trailer is not good they mean nothing.
-- Assumes nothing.
use Rattle.std.specs.Prelude.{ℕ, ◌-◌, List, length, take, drop}
use Rattle.network.specs.declared.Place.{Place}
use Rattle.network.specs.Net.{Net}
use Rattle.network.specs.Packet.{Item}
use Rattle.network.specs.Contents.{Contents}
use Rattle.network.specs.View.{Layout, View, contents}
pub use Rattle.slots.specs.Bytes.{Bytes}
use Rattle.slots.specs.Slots.{slot_at}
use Rattle.board.specs.declared.Board.{Board}
use Rattle.board.specs.Board.{net_of}
use Rattle.board.specs.Layout.{layout_of}
use Rattle.trailer.specs.declared.Head.{Head}
use Rattle.trailer.specs.Trailer.{head_of, last16, GoodTrailer}
use Rattle.table.specs.Packets.{view_of, item_in}

-- what the last 16 bytes say
unfoldable pub head_in : List ℕ → Head
head_in s = head_of (last16 s)

-- the trailer is good
abbrev pub GoodIn : List ℕ → Type 0
GoodIn s = GoodTrailer s (head_in s)

-- the table is the last part of the slice; the bytes before it
unfoldable pub table_in : List ℕ → List ℕ
table_in s = drop (length s - (head_in s).size) s

unfoldable pub before_in : List ℕ → List ℕ
before_in s = take (length s - (head_in s).size) s

-- its board, and where the slots are and what the network is on it
abbrev pub board_in : List ℕ → Board
board_in s = (head_in s).board

abbrev pub layout_in : List ℕ → Layout
layout_in s = layout_of (board_in s)

abbrev pub net_in : List ℕ → Net
net_in s = net_of (board_in s)

-- S
abbrev pub slots_in : List ℕ → ℕ
slots_in s = (layout_in s).size

-- the 16 bytes of a slot, and its place
abbrev pub slot_in : List ℕ → ℕ → List ℕ
slot_in s k = slot_at (table_in s) k

abbrev pub place_in : List ℕ → ℕ → Place
place_in s k = (layout_in s).place_of k

-- what the bytes of a slot say, in its place
abbrev pub packet_in : List ℕ → ℕ → Item
packet_in s k = item_in (board_in s) (table_in s) k

-- the slots and the two counts, and the packets held in their places
abbrev pub see : List ℕ → View
see s = view_of (head_in s) (table_in s)

abbrev pub contents_in : List ℕ → Contents
contents_in s = contents (layout_in s) (see s)

-- the number of held slots
abbrev pub held_in : List ℕ → ℕ
held_in s = length (contents_in s).items
