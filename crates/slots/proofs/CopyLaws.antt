-- Slot a copied over slot c, one byte a turn: after i turns slot c has the first i bytes of slot a, and then its own.
-- Assumes nothing.
use Prim.Native.Nat.{ℕ, ◌+◌, ◌*◌, ◌≤◌, ◌<◌}
use mathlib.Core.Path.{◌≡◌, sym, ap, ◌∙◌}
use mathlib.Core.Logic.{◌≢◌}
use mathlib.Core.List.{List, ◌++◌}
use native.Mathlib.Omega.{arith}
use lib.ListN.{length, get_or, take, drop, set, length-append, length-take, length-drop}
use Rattle.slots.specs.Slots.{slot_at, with_slot}
use Rattle.slots.proofs.Parts.{copied_all, copied_more}
use Rattle.slots.proofs.SlotLaws.{get_or-slot_at, length-slot_at, set-with_slot, slot_at_other, with_slot_own}

abbrev pub copied : List ℕ → ℕ → ℕ → ℕ → List ℕ
copied t a c i = with_slot t c (take i (slot_at t a) ++ drop i (slot_at t c))

pub none_copied : (t : List ℕ) (a c : ℕ) → 16 * c + 16 ≤ length t → t ≡ copied t a c 0
none_copied t a c h = sym (with_slot_own t c h)

module _ (t : List ℕ) (a c : ℕ) (ha : 16 * a + 16 ≤ length t) (hc : 16 * c + 16 ≤ length t) where
  pub one_copied : a ≢ c → (i : ℕ) → i < 16 → set (copied t a c i) (16 * c + i) (get_or (copied t a c i) (16 * a + i) 0) ≡ copied t a c (i + 1)
  one_copied n i l =
      let la = length-slot_at t a ha in
      let lc = length-slot_at t c hc in
      let w : List ℕ = take i (slot_at t a) ++ drop i (slot_at t c) in
      let lw : length w ≡ 16 = simp (length-append, length-take, length-drop) (omega arith) in
      let kept : get_or (copied t a c i) (16 * a + i) 0 ≡ get_or (slot_at t a) i 0 =
      sym (get_or-slot_at (copied t a c i) a i l) ∙ ap (λ (s : List ℕ). get_or s i 0) (slot_at_other t c hc w lw a n) in
      rw kept (set-with_slot t c hc w lw i (get_or (slot_at t a) i 0) l ∙ ap (with_slot t c) (copied_more i (slot_at t a) (slot_at t c) (omega arith) (omega arith)))

  pub all_copied : copied t a c 16 ≡ with_slot t c (slot_at t a)
  all_copied =
      let la = length-slot_at t a ha in
      let whole : take 16 (slot_at t a) ++ drop 16 (slot_at t c) ≡ slot_at t a = rw la at (copied_all (slot_at t a) (slot_at t c) (la ∙ sym (length-slot_at t c hc))) in
      ap (with_slot t c) whole
