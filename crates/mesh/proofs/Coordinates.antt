-- Signed axis differences read as plain comparisons and truncated subtractions of the coordinates, where `omega` reads.
-- Assumes nothing.
use Prim.Native.Nat.{ℕ, zero, suc, ◌+◌, ◌-◌, ◌<◌, ◌≤◌}
use native.Mathlib.Nat.{add-zero}
use native.Mathlib.Omega.{arith}
use mathlib.Core.Path.{◌≡◌, refl, sym, ◌∙◌}
use mathlib.Core.Bool.{Bool, true, false, cond}
use lib.Dec.{ltb}
use lib.IntN.{ℤ, pos, negsuc, nat_abs}
use borrow.Author.Tests.{lt-ltb, le-ltb, ltb-true, ltb-false}
use Rattle.mesh.specs.Axis.{difference, rises, falls}

-- two tests with the same outcome
ltb_same : (a b c d : ℕ) → (a < b → c < d) → (b ≤ a → d ≤ c) → ltb a b ≡ ltb c d
ltb_same a b c d yes' no' = go (ltb a b) refl
  where
    go : (t : Bool) → ltb a b ≡ t → ltb a b ≡ ltb c d
    go true e = e ∙ sym (lt-ltb c d (yes' (ltb-true a b e)))
    go false e = e ∙ sym (le-ltb c d (no' (ltb-false a b e)))

-- a difference as `lib.IntN` computes it, by the test that it makes
module _ (x z : ℕ) where
  -- what is to be shown of a difference d from x to z
  record Reads (d : ℤ) : Type 0 where
    rise : rises d ≡ ltb x z
    fall : falls d ≡ ltb z x
    abs : nat_abs d ≡ (z - x) + (x - z)

reads_by : (x z : ℕ) (t : Bool) → ltb z (suc x) ≡ t → Reads (suc x) z (cond t (negsuc (suc x - suc z)) (pos (z - suc x)))
reads_by x z true e =
    let h : z < suc x = ltb-true z (suc x) e in
    record { rise = sym (le-ltb (suc x) z (omega arith)); fall = sym e; abs = omega arith }
reads_by x z false e =
    let h : suc x ≤ z = ltb-false z (suc x) e in
    record { rise = ltb_same 0 (z - suc x) (suc x) z (λ p. omega arith) (λ p. omega arith); fall = le-ltb (z - suc x) 0 (omega arith) ∙ sym e; abs = omega arith }

reads : (x z : ℕ) → Reads x z (difference x z)
reads zero z = rw add-zero (record { rise = refl; fall = refl; abs = omega arith })
reads (suc x) z = reads_by x z (ltb z (suc x)) refl

module _ (x z : ℕ) where
  -- the difference is above zero exactly where the destination is greater
  pub rises_is : rises (difference x z) ≡ ltb x z
  rises_is = (reads x z).rise

  -- and below zero exactly where it is less
  pub falls_is : falls (difference x z) ≡ ltb z x
  falls_is = (reads x z).fall

  -- its magnitude, by truncated subtraction
  pub nat_abs_is : nat_abs (difference x z) ≡ (z - x) + (x - z)
  nat_abs_is = (reads x z).abs
