-- A raised flag is up, and every flag that was up is up. What a byte does is a test that antt computes over all bytes and bits.
-- Assumes nothing.
use Prim.Native.Nat.{ℕ, zero, suc, ◌+◌, ◌/◌, ◌%◌, ◌<◌}
use mathlib.Core.Path.{◌≡◌, refl, sym, ap, ◌∙◌}
use mathlib.Core.List.{List}
use mathlib.Core.Bool.{Bool, true, false, cond, ◌&&◌, ◌||◌, or-true}
use native.Mathlib.Omega.{arith}
use native.Mathlib.Decide.{ℕ_discrete}
use native.Mathlib.Nat.{not-suc-le-zero}
use lib.Dec.{ltb, eqb}
use lib.ListN.{length, get_or, length-set}
use lib.Seq.{get_or-set_same, get_or-set_other}
use borrow.Author.Tests.{ltb-true, eq-eqb}
use Rattle.network.proofs.Tests.{and_l, and_r, cond_true}
use Rattle.filter.specs.Flags.{weight_of, bit_of, flag_at, raised}

-- the test passes at each number below n
below : ℕ → (ℕ → Bool) → Bool
below zero p = true
below (suc n) p = p n && below n p

each : (n : ℕ) (p : ℕ → Bool) → below n p ≡ true → (k : ℕ) → k < n → p k ≡ true
unfolding below
each zero p e k h = absurd (not-suc-le-zero h)
each (suc n) p e k h = elim (ℕ_discrete k n) [
  | yes q ↦ ap p q ∙ and_l _ _ e
  | no q ↦ each n p (and_r (p n) (below n p) e) k (omega arith)
]

pub weight_pos : (i : ℕ) → i < 8 → 0 < weight_of i
unfolding below
weight_pos i l = ltb-true _ _ (each 8 (λ j. ltb 0 (weight_of j)) refl i l)

-- bit i raised in the byte x, where it is down: x is a byte still, and bit j is up where it was up, or is the one raised
kept : ℕ → ℕ → ℕ → Bool
kept x i j = bit_of x i || (ltb (x + weight_of i) 256 && cond (bit_of x j || eqb i j) (bit_of (x + weight_of i) j) true)

all_kept : below 256 (λ x. below 8 (λ i. below 8 (λ j. kept x i j))) ≡ true
unfolding below kept
all_kept = refl

module _ (x i : ℕ) (h : x < 256) (l : i < 8) (down : bit_of x i ≡ false) where
  bit_kept : (j : ℕ) → j < 8 → (ltb (x + weight_of i) 256 && cond (bit_of x j || eqb i j) (bit_of (x + weight_of i) j) true) ≡ true
  unfolding kept
  bit_kept j m =
      let a = each 256 (λ x. below 8 (λ i. below 8 (λ j. kept x i j))) all_kept x h in
      let b = each 8 (λ i. below 8 (λ j. kept x i j)) a i l in
      rw down at (each 8 (λ j. kept x i j) b j m)

  pub byte_fits : x + weight_of i < 256
  byte_fits = ltb-true _ _ (and_l _ _ (bit_kept i l))

  bit_after : (j : ℕ) → j < 8 → (bit_of x j || eqb i j) ≡ true → bit_of (x + weight_of i) j ≡ true
  bit_after j m u = sym (cond_true _ true u) ∙ and_r (ltb (x + weight_of i) 256) _ (bit_kept j m)

module _ (flags : List ℕ) (full : length flags ≡ 512) (bytes : (i : ℕ) → get_or flags i 0 < 256) (b : ℕ) (l : b < 4096) (down : flag_at flags b ≡ false) where
  raised_byte : get_or (raised flags b) (b / 8) 0 ≡ get_or flags (b / 8) 0 + weight_of (b % 8)
  unfolding raised
  raised_byte = get_or-set_same flags (b / 8) _ 0 (omega arith)

  pub raised_full : length (raised flags b) ≡ 512
  unfolding raised
  raised_full = length-set flags (b / 8) _ ∙ full

  up_after : (a : ℕ) → a / 8 ≡ b / 8 → (bit_of (get_or flags (a / 8) 0) (a % 8) || eqb (b % 8) (a % 8)) ≡ true → flag_at (raised flags b) a ≡ true
  unfolding flag_at
  up_after a e u = rw (e, raised_byte) (bit_after _ (b % 8) (bytes (b / 8)) (omega arith) down (a % 8) (omega arith) (rw e at u))

  pub raised_up : flag_at (raised flags b) b ≡ true
  raised_up = up_after b refl (rw (eq-eqb (b % 8) (b % 8) refl) (or-true (bit_of (get_or flags (b / 8) 0) (b % 8))))

  pub raised-bytes : (i : ℕ) → get_or (raised flags b) i 0 < 256
  unfolding raised flag_at
  raised-bytes i = elim (ℕ_discrete i (b / 8)) [
    | yes e ↦ rw (e, raised_byte) (byte_fits _ (b % 8) (bytes (b / 8)) (omega arith) down)
    | no e ↦ rw (get_or-set_other flags (b / 8) i _ 0 e) (bytes i)
  ]

  pub raised_kept : (a : ℕ) → flag_at flags a ≡ true → flag_at (raised flags b) a ≡ true
  unfolding flag_at raised
  raised_kept a u = elim (ℕ_discrete (a / 8) (b / 8)) [
    | yes e ↦ up_after a e (rw u)
    | no e ↦ rw (get_or-set_other flags (b / 8) (a / 8) _ 0 e) u
  ]
