-- What a table holds, whatever its bytes: its packets in their places and its two counts; and when it passes the full check.
-- Assumes nothing.
use Rattle.std.specs.Prelude.{◌≡◌, List, map, ℕ, ◌+◌, length}
use Rattle.network.specs.Lists.{All, Distinct}
use Rattle.network.specs.Net.{Net}
use Rattle.network.specs.Packet.{Item, GoodItem}

pub record Contents : Type 0 where
  pub items : List Item
  pub taken : ℕ
  pub delivered : ℕ

abbrev pub serial_of : Item → ℕ
serial_of x = x.packet.serial

-- every packet is good, no two have one serial, and taken less delivered is the number held
pub record Passing (N : Net) (b : Contents) : Type 0 where
  pub sound : All (GoodItem N b.taken b.delivered) b.items
  pub distinct : Distinct (map serial_of b.items)
  pub counted : b.taken ≡ b.delivered + length b.items
