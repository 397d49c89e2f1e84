-- The first refusal that is due.
-- Assumes nothing.
use Prim.Native.Nat.{ℕ, suc}
use mathlib.Core.Path.{◌≡◌, refl}
use mathlib.Core.List.{List, [], ◌∷◌, ◌++◌}
use mathlib.Core.Logic.{◌≢◌}
use mathlib.Core.Bool.{Bool, true, false, cond}
use native.Mathlib.Omega.{arith}
use lib.Dec.{eqb}
use borrow.Author.Tests.{eq-eqb, ne_eqb}
use Rattle.network.proofs.Tests.{cond_true, cond_false}
use Rattle.table.specs.Refusals.{Row, first_due}

-- a choice of a refusal's number that comes to 0: it is not due, and nothing after it
pub passed : (n : ℕ) (b : Bool) (x : ℕ) → cond b (suc n) x ≡ 0 → (b ≡ false) × (x ≡ 0)
passed n true x e = absurd (omega arith)
passed n false x e = (refl, e)

-- what is due before is due first
pub due_first : (rs ss : List Row) → first_due rs ≢ 0 → first_due (rs ++ ss) ≡ first_due rs
due_first [] ss u = absurd (u refl)
due_first (r ∷ rs) ss u = here r.due (due_first rs ss) u
  where
    here : (b : Bool) → (first_due rs ≢ 0 → first_due (rs ++ ss) ≡ first_due rs) → cond b r.number (first_due rs) ≢ 0
        → cond b r.number (first_due (rs ++ ss)) ≡ cond b r.number (first_due rs)
    here true f u = refl
    here false f u = f u

-- a choice by whether something is due
pub accepted_by : {A : Type 0} {n : ℕ} (x y : A) → n ≡ 0 → cond (eqb n 0) x y ≡ x
accepted_by x y e = cond_true x y (eq-eqb _ _ e)

pub refused_by_lem : {A : Type 0} {n : ℕ} (x y : A) → n ≢ 0 → cond (eqb n 0) x y ≡ y
refused_by_lem x y e = cond_false x y (ne_eqb _ _ e)
