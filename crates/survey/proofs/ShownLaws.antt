-- The outward copy: what it shows of a slot and of the whole table, and how it is made slot by slot.
-- Assumes nothing.
use Prim.Native.Nat.{ℕ, zero, suc, ◌+◌, ◌*◌, ◌≤◌, ◌<◌}
use mathlib.Core.Path.{◌≡◌, refl, sym, ap, ◌∙◌}
use mathlib.Core.Logic.{◌⊎◌, ⊎_elim}
use mathlib.Core.List.{List}
use mathlib.Core.Bool.{true}
use native.Mathlib.Omega.{arith}
use native.Mathlib.Decide.{ℕ_discrete}
use lib.ListN.{length, get_or, take, drop, replicate, length-append, length-take, length-drop}
use lib.Seq.{take_all, length-take-le, take_at, drop_at}
use Rattle.slots.specs.Bytes.{part}
use Rattle.slots.specs.Slots.{slot_at, with_slot, zeros}
use Rattle.slots.proofs.SlotLaws.{length-slot_at, length-with_slot, slot_at_same, slot_at_other, drop-next, slots_ext}
use Rattle.slots.proofs.ZeroLaws.{zeros-empty_slot}
use Rattle.table.specs.Packets.{fields_of}
use Rattle.table.proofs.PacketLaws.{fields_same, mark_not_zero}
use Rattle.survey.specs.Copy.{without_payload, veiled}

-- ---- a slot

module _ (v : List ℕ) (l : length v ≡ 16) where
  front : length (take 8 v) ≡ 8
  front = length-take-le 8 v (omega arith)

  pub length_shown : length (without_payload v) ≡ 16
  length_shown = simp (length-append, length-take) (omega arith)

  pub front_shown : take 8 (without_payload v) ≡ take 8 v
  front_shown = take_at (take 8 v) _ 8 front

  -- every field but the payload is shown, and the payload reads zero
  pub fields_shown : fields_of (without_payload v) ≡ fields_of v
  fields_shown = fields_same (without_payload v) v front_shown

  pub payload_hidden : part (without_payload v) 8 8 ≡ replicate 8 0
  payload_hidden = ap (take 8) (drop_at (take 8 v) _ 8 front)

  -- an empty slot is shown as empty, and a marked one as held
  pub zeros_shown : (zeros v ≡ true) ⊎ (get_or v 0 0 ≡ 1) → zeros (without_payload v) ≡ zeros v
  zeros_shown =
      ⊎_elim
      (λ e. ap (λ (x : List ℕ). zeros (without_payload x)) (zeros-empty_slot v l e) ∙ sym e)
      (λ m. mark_not_zero (without_payload v) (ap (λ f. f.mark) fields_shown ∙ m) ∙ sym (mark_not_zero v m))

-- ---- the whole table

first_full : (n : ℕ) (t : List ℕ) → 16 * suc n ≤ length t → length (take 16 t) ≡ 16
first_full n t l = length-take-le 16 t (omega arith)

rest_long : (n : ℕ) (t : List ℕ) → 16 * suc n ≤ length t → 16 * n ≤ length (drop 16 t)
rest_long n t l = rw length-drop (omega arith)

pub length-veiled : (n : ℕ) (t : List ℕ) → 16 * n ≤ length t → length (veiled n t) ≡ length t
length-veiled zero t l = refl
length-veiled (suc n) t l =
    length-append (without_payload (take 16 t)) (veiled n (drop 16 t))
    ∙ rw (length_shown (take 16 t) (first_full n t l), length-veiled n (drop 16 t) (rest_long n t l), length-drop) (omega arith)

-- past the first slot the copy is the copy of what is past it
veiled-next : (n : ℕ) (t : List ℕ) → 16 * suc n ≤ length t → drop 16 (veiled (suc n) t) ≡ veiled n (drop 16 t)
veiled-next n t l = drop_at (without_payload (take 16 t)) (veiled n (drop 16 t)) 16 (length_shown (take 16 t) (first_full n t l))

pub veiled_slot : (n : ℕ) (t : List ℕ) (k : ℕ) → k < n → 16 * n ≤ length t → slot_at (veiled n t) k ≡ without_payload (slot_at t k)
unfolding slot_at
veiled_slot zero t k h l = absurd (omega arith)
veiled_slot (suc n) t zero h l =
    take_at (without_payload (take 16 t)) (veiled n (drop 16 t)) 16 (length_shown (take 16 t) (first_full n t l))
veiled_slot (suc n) t (suc k) h l =
    rw (drop-next k (veiled (suc n) t), veiled-next n t l, drop-next k t) (veiled_slot n (drop 16 t) k (omega arith) (rest_long n t l))

-- the trailer is shown as it is
pub veiled_end : (n : ℕ) (t : List ℕ) → 16 * n ≤ length t → drop (16 * n) (veiled n t) ≡ drop (16 * n) t
veiled_end zero t l = refl
veiled_end (suc n) t l = rw (drop-next n (veiled (suc n) t), veiled-next n t l, drop-next n t) (veiled_end n (drop 16 t) (rest_long n t l))

-- the 16 bytes past n slots, as slot n
last_slot : (n : ℕ) (x : List ℕ) → 16 * n + 16 ≡ length x → drop (16 * n) x ≡ slot_at x n
unfolding slot_at
last_slot n x e = sym (take_all 16 (drop (16 * n) x) (rw length-drop (omega arith)))

-- ---- made slot by slot

-- the first k slots of u are the copy's
abbrev pub Shown : List ℕ → List ℕ → ℕ → Type 0
Shown t u k = (j : ℕ) → j < k → slot_at u j ≡ without_payload (slot_at t j)

module _ (n : ℕ) (t u : List ℕ) (l : 16 * n + 16 ≡ length t) (m : length u ≡ length t) where
  -- one slot more
  pub shown_more : (k : ℕ) (v w : List ℕ) → k < n → v ≡ without_payload (slot_at t k) → w ≡ with_slot u k v → Shown t u k
      → (length w ≡ length t) × Shown t w (k + 1)
  shown_more k v w h e f shown =
      let fits : 16 * k + 16 ≤ length u = omega arith in
      let long : length v ≡ 16 = rw e (length_shown (slot_at t k) (length-slot_at t k (omega arith))) in (
        rw f (length-with_slot u k fits v long ∙ m),
        λ j g. rw f (elim (ℕ_discrete j k) [
          | yes q ↦ rw q (slot_at_same u k fits v long ∙ e)
          | no q ↦ slot_at_other u k fits v long j q ∙ shown j (omega arith)
        ]),
      )

  -- and the trailer, as if it were one slot more
  pub shown_all : (w : List ℕ) → w ≡ with_slot u n (slot_at t n) → Shown t u n → (length w ≡ length t) × (w ≡ veiled n t)
  shown_all w f shown =
      let fits : 16 * n + 16 ≤ length u = omega arith in
      let long = length-slot_at t n (omega arith) in
      let same : length w ≡ length t = rw f (length-with_slot u n fits (slot_at t n) long ∙ m) in
      let slots : (k : ℕ) → k < n → slot_at w k ≡ slot_at (veiled n t) k =
      λ k h. rw f (slot_at_other u n fits (slot_at t n) long k (λ q. omega arith)) ∙ shown k h ∙ sym (veiled_slot n t k h (omega arith)) in
      let end : slot_at w n ≡ slot_at t n = rw f (slot_at_same u n fits (slot_at t n) long) in
      (same, slots_ext n w (veiled n t) slots (last_slot n w (l ∙ sym same) ∙ end ∙ sym (last_slot n t l) ∙ sym (veiled_end n t (omega arith))))
