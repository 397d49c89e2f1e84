-- The outward copy of a table that passes the full check is a table that passes it.
-- Assumes nothing.
use Rattle.std.specs.Prelude.{Some, None}
use Prim.Native.Nat.{ℕ, ◌+◌, ◌-◌, ◌*◌, ◌<◌}
use mathlib.Core.Path.{◌≡◌, refl, ap, ◌∙◌}
use mathlib.Core.Logic.{◌⊎◌, inl, inr}
use mathlib.Core.List.{List}
use mathlib.Core.Bool.{Bool, true, false}
use native.Mathlib.Omega.{arith}
use borrow.Author.Tests.{not-false}
use lib.ListN.{length, get_or, take}
use Rattle.slots.specs.Slots.{slot_at, zeros}
use Rattle.slots.proofs.SlotLaws.{length-slot_at}
use Rattle.board.specs.Layout.{layout_of}
use Rattle.trailer.specs.declared.Head.{Head}
use Rattle.trailer.specs.Trailer.{trailer_of}
use Rattle.trailer.proofs.TrailerLaws.{table_sized, trailer_same}
use Rattle.table.specs.Held.{held_at}
use Rattle.table.proofs.PacketLaws.{good_here}
use Rattle.survey.specs.Check.{fault_in}
use Rattle.survey.specs.Copy.{without_payload, veiled}
use Rattle.survey.proofs.CheckLaws.{held_good}
use Rattle.survey.proofs.ShownLaws.{zeros_shown, front_shown, length-veiled, veiled_slot, veiled_end}
use Rattle.survey.proofs.Sight.{SeenSame, fault_same}

abbrev count : Head → ℕ
count h = (layout_of h.board).size

module _ (t : List ℕ) {h : Head} (e : trailer_of t ≡ Some h) (l : length t ≡ h.size) where
  full : length t ≡ 16 * count h + 16
  full = (table_sized t e l).full

  trailer_shown : trailer_of (veiled (count h) t) ≡ Some h
  trailer_shown =
      let f = full in
      let same : length (veiled (count h) t) ≡ length t = length-veiled (count h) t (omega arith) in
      let at : length t - 16 ≡ 16 * count h = omega arith in
      trailer_same (veiled (count h) t) t same (rw (same, at) (veiled_end (count h) t (omega arith))) ∙ e

  -- a slot of a table that passes is empty, or its packet is good and so has its mark
  pub empty_or_marked : fault_in h t ≡ None → (k : ℕ) → k < count h → (zeros (slot_at t k) ≡ true) ⊎ (get_or (slot_at t k) 0 0 ≡ 1)
  empty_or_marked p k b = go (held_at t k) refl
    where
      go : (z : Bool) → held_at t k ≡ z → (zeros (slot_at t k) ≡ true) ⊎ (get_or (slot_at t k) 0 0 ≡ 1)
      go true q = inr (good_here h t k (held_good h t p k b q) (table_sized t e l).board b).marked
      go false q = inl (not-false _ q)

  shown_same : fault_in h t ≡ None → SeenSame (count h) (veiled (count h) t) t
  shown_same p = record {
    held = λ k b. ap zeros (shown k b) ∙ zeros_shown (slot_at t k) (sixteen k b) (empty_or_marked p k b);
    front = λ k b. ap (take 8) (shown k b) ∙ front_shown (slot_at t k) (sixteen k b);
  }
    where
      shown : (k : ℕ) → k < count h → slot_at (veiled (count h) t) k ≡ without_payload (slot_at t k)
      shown k b = veiled_slot (count h) t k b (omega (arith, full))

      sixteen : (k : ℕ) → k < count h → length (slot_at t k) ≡ 16
      sixteen k b = length-slot_at t k (omega (arith, full))

  pub copy_passes : fault_in h t ≡ None
      → (trailer_of (veiled (layout_of h.board).size t) ≡ Some h) × (fault_in h (veiled (layout_of h.board).size t) ≡ None)
  copy_passes p = (trailer_shown, fault_same h (veiled (count h) t) t (shown_same p) ∙ p)
