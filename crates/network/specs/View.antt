-- A table as its slots by number, over any layout of the queues; and what one accepted move does to them.
-- Assumes nothing.
use Rattle.std.specs.Prelude.{◌≡◌, true, List, [], ◌∷◌, ℕ, ◌+◌, ◌<◌}
use Rattle.network.specs.declared.Kind.{Kind}
use Rattle.network.specs.declared.Place.{Place}
use Rattle.network.specs.Lists.{collect}
use Rattle.network.specs.Net.{Net}
use Rattle.network.specs.Packet.{Packet, Item}
use Rattle.network.specs.Contents.{Contents}

-- document 01: a slot that isn't empty is held
pub data Slot : Type 0 where
  empty : Slot
  held : Packet → Slot

-- where each slot is; the slots of a queue are `room` many from `first` on
pub record Layout : Type 0 where
  pub size : ℕ
  pub place_of : ℕ → Place
  pub first : Place → ℕ
  pub room : Kind → ℕ

pub record LayoutLaws (N : Net) (Y : Layout) : Type 0 where
  pub on_net : (i : ℕ) → i < Y.size → N.valid (Y.place_of i).node ≡ true
  pub within : (p : Place) (j : ℕ) → N.valid p.node ≡ true → j < Y.room p.kind → Y.first p + j < Y.size
  pub there : (p : Place) (j : ℕ) → N.valid p.node ≡ true → j < Y.room p.kind → Y.place_of (Y.first p + j) ≡ p
  pub roomy : (k : Kind) → 0 < Y.room k
  -- every slot is in the queue of its place
  pub own : (i : ℕ) → i < Y.size → (j : ℕ) × (j < Y.room (Y.place_of i).kind) × (i ≡ Y.first (Y.place_of i) + j)

-- a table as its slots and its two counts
pub record View : Type 0 where
  pub at : ℕ → Slot
  pub taken : ℕ
  pub delivered : ℕ

abbrev pub item_at : Layout → ℕ → Packet → Item
item_at Y i p = record { place = Y.place_of i; packet = p }

abbrev pub seen : Layout → ℕ → Slot → List Item
seen Y i empty = []
seen Y i (held p) = item_at Y i p ∷ []

-- the packets that the table holds, in their places
abbrev pub items_of : Layout → View → List Item
items_of Y v = collect (λ i. seen Y i (v.at i)) Y.size

abbrev pub contents : Layout → View → Contents
contents Y v = record { items = items_of Y v; taken = v.taken; delivered = v.delivered }
