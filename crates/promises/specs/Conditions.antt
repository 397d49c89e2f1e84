-- Document 01's words for the slots of a slice, as facts: empty, held, good, spoiled, an empty slot of a queue, the full check's first fault; how
-- many slots of a queue are empty (document 02, order 1), and to which packets one gives way (order 3).
-- Assumes nothing.
use Rattle.std.specs.Prelude.{ℕ, ◌-◌, ◌<◌, ◌≤◌, ◌≡◌, ◌≢◌, true, ◌&&◌, List}
use Rattle.network.specs.declared.Kind.TheVariants.{A, B}
use Rattle.network.specs.declared.Place.{Place}
use Rattle.network.specs.declared.Lead.{Lead}
use Rattle.network.specs.declared.Lead.TheVariants.{Hop, Turn, Out, NotOffered}
use Rattle.network.specs.Net.{at, same_place}
use Rattle.network.specs.Packet.{GoodItem}
use Rattle.network.specs.Search.{count_with}
use Rattle.slots.specs.Slots.{empty_slot, zeros}
use Rattle.board.specs.Board.{published_on}
use Rattle.calls.specs.Slices.{head_in, board_in, net_in, slots_in, slot_in, place_in, packet_in, held_in}

-- an empty slot is 16 zeros; a slot that isn't empty is held
abbrev pub EmptyAt : List ℕ → ℕ → Type 0
EmptyAt s k = slot_in s k ≡ empty_slot

abbrev pub HeldAt : List ℕ → ℕ → Type 0
HeldAt s k = slot_in s k ≢ empty_slot

-- a held slot is good if all of `GoodItem` is true; otherwise it is spoiled
abbrev pub GoodAt : List ℕ → ℕ → Type 0
GoodAt s k = GoodItem (net_in s) (head_in s).taken (head_in s).delivered (packet_in s k)

abbrev pub SpoiledAt : List ℕ → ℕ → Type 0
SpoiledAt s k = HeldAt s k × (GoodAt s k → ⊥)

-- a code that there is: on a grid one from 1 to 7
abbrev pub IsCode : List ℕ → ℕ → Type 0
IsCode s code = (net_in s).known code ≡ true

-- where the published function leads the packet of a slot by a code, in the profile of the table's own board
abbrev pub lead_in : List ℕ → ℕ → ℕ → Lead
lead_in s k code = published_on (board_in s) (place_in s k) (packet_in s k).packet.destination code

-- slot j is an empty one of the queue at that place
pub record EmptyOf (s : List ℕ) (p : Place) (j : ℕ) : Type 0 where
  pub inside : j < slots_in s
  pub there : place_in s j ≡ p
  pub empty : EmptyAt s j

abbrev pub HasEmpty : List ℕ → Place → Type 0
HasEmpty s p = (j : ℕ) × EmptyOf s p j

-- and the lowest such
pub record LowestOf (s : List ℕ) (p : Place) (j : ℕ) : Type 0 where
  pub one : EmptyOf s p j
  pub least : (i : ℕ) → EmptyOf s p i → j ≤ i

-- how many slots are empty in the queue at that place: the slots below S that are at that place and are 16 zeros
abbrev pub room_left : List ℕ → Place → ℕ
room_left s p = count_with (λ j. same_place (place_in s j) p && zeros (slot_in s j)) 0 (slots_in s)

-- a lead needs an empty slot in its target queue; a hop keeps the queue kind, a turn keeps the node, and out needs none
abbrev pub Room : List ℕ → Place → Lead → Type 0
Room s here (Hop n) = HasEmpty s (at n here.kind)
Room s here (Turn k) = HasEmpty s (at here.node k)
Room s here Out = Unit {0}
Room s here NotOffered = Unit {0}

-- order 3, static traffic first on a link: in A, on a code by which the rule makes it hop, the packet of a slot gives way to that of slot j, which is
-- in the B queue of the same node, held and good, and is offered a hop by that same code; room is not asked for
pub record GivesWayTo (s : List ℕ) (slot code j : ℕ) : Type 0 where
  pub in_A : (place_in s slot).kind ≡ A
  pub hop : (n : ℕ) × (lead_in s slot code ≡ Hop n)
  pub inside : j < slots_in s
  pub in_B : place_in s j ≡ at (place_in s slot).node B
  pub held : HeldAt s j
  pub good : GoodAt s j
  pub same_hop : (n : ℕ) × (lead_in s j code ≡ Hop n)

abbrev pub GivesWay : List ℕ → ℕ → ℕ → Type 0
GivesWay s slot code = (j : ℕ) × GivesWayTo s slot code j

-- a held slot whose serial a lower held slot has
abbrev pub RepeatsAt : List ℕ → ℕ → Type 0
RepeatsAt s k = HeldAt s k × ((j : ℕ) × (j < k) × HeldAt s j × ((packet_in s j).packet.serial ≡ (packet_in s k).packet.serial))

abbrev pub NoneBelow : (ℕ → Type 0) → ℕ → Type 0
NoneBelow P n = (j : ℕ) → j < n → P j → ⊥

-- document 01, "Full check": the lowest spoiled slot; else the lowest held slot whose serial a lower held slot has; else S, where taken less
-- delivered isn't the number of held slots
pub data FaultAt (s : List ℕ) (place : ℕ) : Type 0 where
  spoiled : place < slots_in s → SpoiledAt s place → NoneBelow (SpoiledAt s) place → FaultAt s place
  repeated : NoneBelow (SpoiledAt s) (slots_in s) → place < slots_in s → RepeatsAt s place → NoneBelow (RepeatsAt s) place → FaultAt s place
  miscounted : NoneBelow (SpoiledAt s) (slots_in s) → NoneBelow (RepeatsAt s) (slots_in s) → (head_in s).taken - (head_in s).delivered ≢ held_in s → place ≡ slots_in s
      → FaultAt s place

abbrev pub NothingHeld : List ℕ → Type 0
NothingHeld s = (k : ℕ) → k < slots_in s → EmptyAt s k
