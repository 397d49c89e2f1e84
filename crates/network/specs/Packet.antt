-- A packet in its place: when it is good, what an offered move makes of it, what it weighs and what it is bound for.
-- Assumes nothing.
use Rattle.std.specs.Prelude.{◌≡◌, Bool, true, ◌&&◌, List, ℕ, suc, ◌+◌, ◌<◌, ltb, eqb}
use Rattle.network.specs.declared.Kind.{Kind}
use Rattle.network.specs.declared.Kind.TheVariants.{Waiting, A, B}
use Rattle.network.specs.declared.Place.{Place}
use Rattle.network.specs.declared.Lead.{Lead}
use Rattle.network.specs.Net.{Net, at, beside}

-- what a held slot's bytes say
pub record Packet : Type 0 where
  pub mark : ℕ
  pub source : ℕ
  pub destination : ℕ
  pub hops : ℕ
  pub serial : ℕ
  pub payload : List ℕ

-- a packet in its place
pub record Item : Type 0 where
  pub place : Place
  pub packet : Packet

-- a packet handed out, and the node where that was
pub record Delivery : Type 0 where
  pub node : ℕ
  pub packet : Packet

-- document 01: in a waiting slot, the source is here; in a B slot, neither coordinate of the destination is greater than here's
abbrev pub fits_kind : Net → Kind → ℕ → Packet → Bool
fits_kind N Waiting here p = eqb p.source here
fits_kind N A here p = true
fits_kind N B here p = N.settled here p.destination

-- document 01, "Slot": a held slot is good if all of this is true
unfoldable pub good : Net → ℕ → ℕ → Item → Bool
good N taken delivered x =
    let p = x.packet in
    let here = x.place.node in
    eqb p.mark 1
    && (N.valid p.source && (N.valid p.destination
    && (ltb p.serial taken && (ltb delivered taken
    && (eqb p.hops (N.distance p.source here)
    && (eqb (p.hops + N.distance here p.destination) (N.distance p.source p.destination)
    && fits_kind N x.place.kind here p))))))

-- what that means, at a node of the network
pub record GoodItem (N : Net) (taken delivered : ℕ) (x : Item) : Type 0 where
  pub here : N.valid x.place.node ≡ true
  pub marked : x.packet.mark ≡ 1
  pub from : N.valid x.packet.source ≡ true
  pub to : N.valid x.packet.destination ≡ true
  pub numbered : x.packet.serial < taken
  pub due : delivered < taken
  pub made : x.packet.hops ≡ N.distance x.packet.source x.place.node
  pub left : x.packet.hops + N.distance x.place.node x.packet.destination ≡ N.distance x.packet.source x.packet.destination
  pub fits : fits_kind N x.place.kind x.place.node x.packet ≡ true

-- where the rule leads a packet by a code
abbrev pub offer : Net → Item → ℕ → Lead
offer N x code = N.rule x.place x.packet.destination code

-- the packet with so many hops made
abbrev pub with_hops : Packet → ℕ → Packet
with_hops p h = record {
  mark = p.mark;
  source = p.source;
  destination = p.destination;
  hops = h;
  serial = p.serial;
  payload = p.payload;
}

-- after a hop, after a turn, and when handed out
abbrev pub hopped : Item → ℕ → Item
hopped x n = record { place = at n x.place.kind; packet = with_hops x.packet (suc x.packet.hops) }

abbrev pub turned : Item → Kind → Item
turned x k = record { place = at x.place.node k; packet = x.packet }

abbrev pub handed : Item → Delivery
handed x = record { node = x.place.node; packet = x.packet }

-- demand 3's count for one packet: three, two or one, plus the distance still to go
unfoldable pub weight : Net → Item → ℕ
weight N x = beside x.place.kind + N.distance x.place.node x.packet.destination

-- the delivery that a packet is bound for: its own record, at its destination, after as many hops as the distance from its source
unfoldable pub bound : Net → Item → Delivery
bound N x = record {
  node = x.packet.destination;
  packet = with_hops x.packet (N.distance x.packet.source x.packet.destination);
}
