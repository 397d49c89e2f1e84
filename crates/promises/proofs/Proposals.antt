-- Proposed moves on a slice as the large theorem speaks of them, and what their answers tell.
-- Assumes nothing.
use Prim.Native.Nat.{ℕ}
use mathlib.Core.Path.{◌≡◌, refl}
use mathlib.Core.Logic.{◌≢◌}
use mathlib.Core.Bool.{Bool, true, false, cond}
use mathlib.Core.List.{List}
use lib.Dec.{eqb}
use borrow.Author.Tests.{eqb-true, eqb-false, eq-eqb}
use Rattle.network.specs.Net.{delivery}
use Rattle.network.specs.Packet.{Delivery}
use Rattle.network.specs.Run.{Answer, unchanged, moved, delivered, Accepted}
use Rattle.network.proofs.Tests.{clash}
use Rattle.table.specs.Packets.{packet_of}
use Rattle.table.specs.Calls.{Outcome}
use Rattle.router.specs.Move.{MoveAnswer, moved_slice}
use Rattle.calls.specs.Slices.{place_in}

-- ---- the machine that the large theorem speaks of: a slice, under proposed moves

pub record Proposal : Type 0 where
  pub slot : ℕ
  pub code : ℕ

-- number 0 is acceptance; a delivery is an accepted move by its code, and its record, all 16 bytes, is in the answer
abbrev answer_by : List ℕ → Proposal → Outcome MoveAnswer (List ℕ) → Answer (List ℕ)
answer_by s c o =
    cond (eqb o.answer.number 0)
    (cond (eqb c.code delivery)
    (delivered o.bytes record { node = (place_in s c.slot).node; packet = packet_of o.answer.packet })
    (moved o.bytes))
    unchanged

abbrev pub answering : List ℕ → Proposal → Answer (List ℕ)
answering s c = answer_by s c (moved_slice s c.slot c.code)

-- ---- what an answer tells

module _ (s : List ℕ) (c : Proposal) (o : Outcome MoveAnswer (List ℕ)) where
  pub told_moved : (u : List ℕ) → answer_by s c o ≡ moved u → (o.answer.number ≡ 0) × (c.code ≢ delivery) × (o.bytes ≡ u)
  told_moved u e = go (eqb o.answer.number 0) (eqb c.code delivery) refl refl e
    where
      go : (b d : Bool) → eqb o.answer.number 0 ≡ b → eqb c.code delivery ≡ d
          → cond b (cond d (delivered o.bytes record { node = (place_in s c.slot).node; packet = packet_of o.answer.packet }) (moved o.bytes)) unchanged ≡ moved u
          → (o.answer.number ≡ 0) × (c.code ≢ delivery) × (o.bytes ≡ u)
      go true false p q f = (eqb-true _ _ p, eqb-false _ _ q, cc)
      go true true p q f = clash cc
      go false d p q f = clash cc

  pub told_delivered : (u : List ℕ) (d : Delivery) → answer_by s c o ≡ delivered u d
      → (o.answer.number ≡ 0) × (c.code ≡ delivery) × (o.bytes ≡ u)
      × (◌≡◌ {A = Delivery} record { node = (place_in s c.slot).node; packet = packet_of o.answer.packet } d)
  told_delivered u d e = go (eqb o.answer.number 0) (eqb c.code delivery) refl refl e
    where
      go : (b g : Bool) → eqb o.answer.number 0 ≡ b → eqb c.code delivery ≡ g
          → cond b (cond g (delivered o.bytes record { node = (place_in s c.slot).node; packet = packet_of o.answer.packet }) (moved o.bytes)) unchanged ≡ delivered u d
          → (o.answer.number ≡ 0) × (c.code ≡ delivery) × (o.bytes ≡ u)
          × (◌≡◌ {A = Delivery} record { node = (place_in s c.slot).node; packet = packet_of o.answer.packet } d)
      go true true p q f = (eqb-true _ _ p, eqb-true _ _ q, cc, cc)
      go true false p q f = clash cc
      go false g p q f = clash cc

  pub accepted_by_number : o.answer.number ≡ 0 → Accepted (answer_by s c o)
  accepted_by_number e = go (eqb c.code delivery)
    where
      go : (d : Bool) → Accepted (cond (eqb o.answer.number 0)
          (cond d (delivered o.bytes record { node = (place_in s c.slot).node; packet = packet_of o.answer.packet }) (moved o.bytes)) unchanged)
      go true = rw (eq-eqb _ _ e) tt
      go false = rw (eq-eqb _ _ e) tt

  pub number_by_accepted : Accepted (answer_by s c o) → o.answer.number ≡ 0
  number_by_accepted a = go (eqb o.answer.number 0) refl a
    where
      go : (b : Bool) → eqb o.answer.number 0 ≡ b
          → Accepted (cond b (cond (eqb c.code delivery) (delivered o.bytes record { node = (place_in s c.slot).node; packet = packet_of o.answer.packet }) (moved o.bytes)) unchanged)
          → o.answer.number ≡ 0
      go true e a = eqb-true _ _ e
      go false e a = absurd a
