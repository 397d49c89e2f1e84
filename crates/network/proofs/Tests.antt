-- Tests joined by `◌&&◌`, chains of them, what a test of a call's Bool says of the definition that the call ensures, and cases that cannot be.
-- Assumes nothing.
use mathlib.Core.Path.{◌≡◌, refl, sym, ap, ◌∙◌}
use mathlib.Core.Bool.{Bool, true, false, cond, ◌&&◌, ◌||◌, false≢true}
use Prim.Native.Nat.{ℕ}
use native.Mathlib.Omega.{arith}

pub and_l : (a b : Bool) → a && b ≡ true → a ≡ true
and_l true b e = refl
and_l false b e = e

pub and_r : (a b : Bool) → a && b ≡ true → b ≡ true
and_r true b e = e
and_r false b e = absurd (false≢true e)

pub and_both : {a b : Bool} → a ≡ true → b ≡ true → a && b ≡ true
and_both p q = rw (p, q)

-- for hypotheses that cannot be: `clash cc`
pub clash : {A : Type 0} → ◌≡◌ {A = ℕ} 0 1 → A
clash z = absurd (omega arith)

pub both_true : (a b : Bool) → (a && b) ≡ true → (a ≡ true) × (b ≡ true)
both_true a b e = (and_l a b e, and_r a b e)

-- a call's `Bool` that a test found true, and one that it found false
pub held : {r b : Bool} → r ≡ b → r ≡ true → b ≡ true
held e t = sym e ∙ t

pub failed : {r b : Bool} → r ≡ b → r ≡ false → b ≡ false
failed e t = sym e ∙ t

-- a chain of tests, one step for each: `cond_true _ _ e ∙ cond_false _ _ f`
pub cond_true : {A : Type 0} {b : Bool} (x y : A) → b ≡ true → cond b x y ≡ x
cond_true x y e = ap (λ (b : Bool). cond b x y) e

pub cond_false : {A : Type 0} {b : Bool} (x y : A) → b ≡ false → cond b x y ≡ y
cond_false x y e = ap (λ (b : Bool). cond b x y) e

pub and_yes : {a b : Bool} → a ≡ true → (a && b) ≡ b
and_yes {b = b} e = ap (λ (a : Bool). a && b) e

pub and_no : {a : Bool} (b : Bool) → a ≡ false → (a && b) ≡ false
and_no b e = ap (λ (a : Bool). a && b) e

pub never_true : (b : Bool) → (b ≡ true → ⊥) → b ≡ false
never_true true u = absurd (u refl)
never_true false u = refl

pub neither : (a b : Bool) → (a || b) ≡ false → (a ≡ false) × (b ≡ false)
neither true b e = clash cc
neither false b e = (refl, e)
