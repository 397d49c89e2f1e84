-- Demand 2: a proposed move of a good packet is accepted exactly when the published rule offers it, it gives way to none (document 02, order 3) and its
-- target queue has an empty slot; it does that one step and no other. The copy for outsiders shows every field of every packet except its
-- payload, which reads zero.
-- Assumes nothing.
use Rattle.std.specs.Prelude.{ℕ, suc, ◌<◌, ◌≡◌, ◌≢◌, ◌⊎◌, ◌↔◌, List, length, take, drop}
use Rattle.network.specs.declared.Place.{Place}
use Rattle.network.specs.declared.Lead.{Lead}
use Rattle.network.specs.declared.Lead.TheVariants.{Hop, Turn, Out, NotOffered}
use Rattle.network.specs.Net.{at}
use Rattle.slots.specs.Bytes.{le32}
use Rattle.slots.specs.Slots.{slot_at, empty_slot}
use Rattle.trailer.specs.Trailer.{last16}
use Rattle.table.specs.Carriage.{hop}
use Rattle.table.specs.Calls.{Outcome}
use Rattle.router.specs.Move.{MoveAnswer}
use Rattle.survey.specs.Copy.{without_payload}
use Rattle.survey.specs.Secrecy.{Alike}
use Rattle.calls.specs.Slices.{Bytes, head_in, GoodIn, before_in, slots_in, slot_in, place_in}
use Rattle.calls.specs.Router.{Router}
use Rattle.promises.specs.Conditions.{EmptyAt, HeldAt, GoodAt, IsCode, lead_in, LowestOf, room_left, Room, GivesWay}

-- the slot holds a good packet, under a good trailer
pub record GoodPacket (s : List ℕ) (slot : ℕ) : Type 0 where
  pub trailer : GoodIn s
  pub inside : slot < slots_in s
  pub held : HeldAt s slot
  pub good : GoodAt s slot

-- the published function offers the move, it gives way to none, and there is room for it
pub record Offered (s : List ℕ) (slot code : ℕ) : Type 0 where
  pub leads : lead_in s slot code ≢ NotOffered
  pub right_of_way : GivesWay s slot code → ⊥
  pub room : Room s (place_in s slot) (lead_in s slot code)

-- what no accepted move changes: the slice's length, the bytes before the table, and every slot but those named
pub record Kept (s u : List ℕ) (Touched : ℕ → Type 0) : Type 0 where
  pub long : length u ≡ length s
  pub before : before_in u ≡ before_in s
  pub slots : (i : ℕ) → i < slots_in s → (Touched i → ⊥) → slot_in u i ≡ slot_in s i

-- the packet's 16 bytes, with so many hops more, in the lowest empty slot of the target queue, the old slot zeros, and nothing else; the answer tells
-- how many slots of the target queue are left empty
pub record Goes (s : List ℕ) (slot : ℕ) (target : Place) (more : ℕ) (o : Outcome MoveAnswer (List ℕ)) : Type 0 where
  pub to : ℕ
  pub lowest : LowestOf s target to
  pub answer : o.answer ≡ record { number = 0; slot = to; packet = empty_slot; left = room_left o.bytes target }
  pub come : slot_in o.bytes to ≡ hop (slot_in s slot) more
  pub gone : EmptyAt o.bytes slot
  pub rest : Kept s o.bytes (λ i. (i ≡ slot) ⊎ (i ≡ to))
  pub trailer : last16 o.bytes ≡ last16 s

-- the packet's 16 bytes in the answer, the old slot zeros, one more delivered, and nothing else; the answer tells how many slots are then empty in the
-- queue that it left
pub record Leaves (s : List ℕ) (slot : ℕ) (o : Outcome MoveAnswer (List ℕ)) : Type 0 where
  pub answer : o.answer ≡ record { number = 0; slot = 0; packet = slot_in s slot; left = room_left o.bytes (place_in s slot) }
  pub gone : EmptyAt o.bytes slot
  pub rest : Kept s o.bytes (λ i. i ≡ slot)
  pub counted : le32 (last16 o.bytes) 8 ≡ suc (le32 (last16 s) 8)
  pub first_bytes : take 8 (last16 o.bytes) ≡ take 8 (last16 s)
  pub last_bytes : drop 12 (last16 o.bytes) ≡ drop 12 (last16 s)

-- the one step that a lead tells: a hop adds one to the hops
abbrev pub OneStep : List ℕ → ℕ → Lead → Outcome MoveAnswer (List ℕ) → Type 0
OneStep s slot (Hop n) o = Goes s slot (at n (place_in s slot).kind) 1 o
OneStep s slot (Turn k) o = Goes s slot (at (place_in s slot).node k) 0 o
OneStep s slot Out o = Leaves s slot o
OneStep s slot NotOffered o = ⊥

-- a copy for outsiders: every byte of the table but the payloads, which are zeros
pub record Shows (s copy : List ℕ) : Type 0 where
  pub long : length copy ≡ (head_in s).size
  pub slots : (k : ℕ) → k < slots_in s → slot_at copy k ≡ without_payload (slot_in s k)
  pub trailer : last16 copy ≡ last16 s

pub record Demand2 (R : Router) : Type 0 where
  pub exactly : (s : List ℕ) → Bytes s → (slot code : ℕ) → GoodPacket s slot → ((R.make_move s slot code).answer.number ≡ 0) ↔ Offered s slot code
  pub only : (s : List ℕ) → Bytes s → (slot code : ℕ) → (R.make_move s slot code).answer.number ≡ 0 → GoodPacket s slot × IsCode s code
  pub step : (s : List ℕ) → Bytes s → (slot code : ℕ) → (R.make_move s slot code).answer.number ≡ 0
      → OneStep s slot (lead_in s slot code) (R.make_move s slot code)
  pub copy : (s out : List ℕ) → Bytes s → (R.copy_outward s out).answer.number ≡ 0 → Shows s (R.copy_outward s out).bytes.second
  -- two tables that differ only in payloads of slots held in both and in bytes before the table give the same answer and copy
  pub secret : (s u out : List ℕ) → Alike s u
      → ((R.copy_outward s out).answer ≡ (R.copy_outward u out).answer) × ((R.copy_outward s out).bytes.second ≡ (R.copy_outward u out).bytes.second)
