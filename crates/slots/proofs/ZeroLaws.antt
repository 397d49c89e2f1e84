-- Laws of `zeros`: it says of a list that it is zeros alone, so of 16 bytes that they are an empty slot.
-- Assumes nothing.
use Prim.Native.Nat.{ℕ, zero, suc}
use mathlib.Core.Path.{◌≡◌, refl, ap, ◌∙◌}
use mathlib.Core.Bool.{true, ◌&&◌}
use mathlib.Core.List.{List, [], ◌∷◌, ◌++◌}
use native.Mathlib.Omega.{arith}
use borrow.Author.Tests.{eqb-true}
use lib.Dec.{eqb}
use lib.ListN.{length, replicate}
use Rattle.network.proofs.Tests.{and_l, and_r}
use Rattle.slots.specs.Slots.{empty_slot, zeros}

-- one byte more
pub zeros-push : (p : List ℕ) (x : ℕ) → zeros (p ++ (x ∷ [])) ≡ (zeros p && eqb x 0)
zeros-push [] x = grind arith
zeros-push (y ∷ p) x = grind (arith, zeros-push p x)

pub zeros-replicate : (n : ℕ) → zeros (replicate n 0) ≡ true
zeros-replicate zero = refl
zeros-replicate (suc n) = zeros-replicate n

pub only_zeros : (v : List ℕ) → zeros v ≡ true → v ≡ replicate (length v) 0
only_zeros [] e = refl
only_zeros (x ∷ v) e = cc (eqb-true x 0 (and_l (eqb x 0) (zeros v) e), only_zeros v (and_r (eqb x 0) (zeros v) e))

pub zeros-of_only : (v : List ℕ) → v ≡ replicate (length v) 0 → zeros v ≡ true
zeros-of_only v e = ap zeros e ∙ zeros-replicate (length v)

pub zeros-empty_slot : (v : List ℕ) → length v ≡ 16 → zeros v ≡ true → v ≡ empty_slot
zeros-empty_slot v l e = only_zeros v e ∙ ap (λ (n : ℕ). replicate n 0) l
