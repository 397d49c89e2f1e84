-- The full check's first fault is document 01's: the place that the searches find is a fault, and where they find nothing there is none.
-- Assumes nothing.
use Rattle.std.specs.Prelude.{Option, Some, None}
use Prim.Native.Nat.{ℕ, zero, suc, ◌-◌, ◌≤◌, ◌<◌}
use mathlib.Core.Path.{◌≡◌, refl, sym, ap, ◌∙◌}
use mathlib.Core.Logic.{◌⊎◌, inl, inr}
use mathlib.Core.Bool.{Bool, true, false, not, cond, ◌&&◌, ◌||◌}
use mathlib.Core.List.{List}
use native.Mathlib.Omega.{arith}
use lib.Dec.{eqb}
use borrow.Author.Tests.{not-true, eqb-true, eqb-false}
use Rattle.network.proofs.Tests.{clash, both_true, and_both}
use Rattle.network.proofs.SearchLaws.{at_lowest, nowhere_none}
use Rattle.table.specs.Packets.{good_at}
use Rattle.table.specs.Held.{held_at, held_below}
use Rattle.survey.specs.Check.{serial_at, spoiled_at, first_spoiled, has_serial, repeats_at, first_repeat, miscount, or_else, fault_in}
use Rattle.survey.proofs.CheckLaws.{fault_none, serial_unused}
use Rattle.survey.proofs.Meaning.{count_held}
use Rattle.calls.specs.Slices.{head_in, table_in, GoodIn, slots_in, held_in}
use Rattle.promises.specs.Conditions.{SpoiledAt, RepeatsAt, NoneBelow, FaultAt, spoiled, repeated, miscounted}
use Rattle.promises.proofs.Conditions.{zeros_held, held_zeros, good_test, test_good}
use Rattle.promises.proofs.Grounds.{not_due, not_both}

-- a serial that is found is that of a lower held slot
serial_found : (t : List ℕ) (serial n : ℕ) → has_serial t serial n ≡ true → (j : ℕ) × (j < n) × (held_at t j ≡ true) × (serial_at t j ≡ serial)
serial_found t serial zero e = clash cc
serial_found t serial (suc n) e = go (held_at t n) (eqb (serial_at t n) serial) refl refl e (serial_found t serial n)
  where
    go : (a b : Bool) → held_at t n ≡ a → eqb (serial_at t n) serial ≡ b → ((a && b) || has_serial t serial n) ≡ true
        → (has_serial t serial n ≡ true → (j : ℕ) × (j < n) × (held_at t j ≡ true) × (serial_at t j ≡ serial))
        → (j : ℕ) × (j < suc n) × (held_at t j ≡ true) × (serial_at t j ≡ serial)
    go true true p q f rest = (n, omega arith, p, eqb-true _ _ q)
    go true false p q f rest = let r = rest f in (r.0, omega (arith, r.1), r.2, r.3)
    go false b p q f rest = let r = rest f in (r.0, omega (arith, r.1), r.2, r.3)

-- the first of two searches that finds something
first_or : {p : ℕ} (r next : Option ℕ) → or_else r next ≡ Some p → (r ≡ Some p) ⊎ ((r ≡ None) × (next ≡ Some p))
first_or (Some k) next e = inl e
first_or None next e = inr (refl, e)

module _ (s : List ℕ) (g : GoodIn s) where
  -- ---- each test of the check, and its condition

  module _ (k : ℕ) where
    test_spoiled : spoiled_at (head_in s) (table_in s) k ≡ true → SpoiledAt s k
    test_spoiled e =
        let b = both_true (held_at (table_in s) k) (not (good_at (head_in s) (table_in s) k)) e in
        (zeros_held s g k (not-true _ b.0), λ h. not_due _ b.1 (good_test s g k h))

    spoiled_test : k < slots_in s → SpoiledAt s k → spoiled_at (head_in s) (table_in s) k ≡ true
    spoiled_test l h = and_both (ap not (held_zeros s g k l h.0)) (go (good_at (head_in s) (table_in s) k) refl)
      where
        go : (b : Bool) → good_at (head_in s) (table_in s) k ≡ b → not b ≡ true
        go true e = absurd (h.1 (test_good s g k l e))
        go false e = refl

    test_repeats : repeats_at (table_in s) k ≡ true → RepeatsAt s k
    test_repeats e =
        let b = both_true (held_at (table_in s) k) (has_serial (table_in s) (serial_at (table_in s) k) k) e in
        let r = serial_found (table_in s) (serial_at (table_in s) k) k b.1 in
        (zeros_held s g k (not-true _ b.0), (r.0, r.1, zeros_held s g r.0 (not-true _ r.2), r.3))

    repeats_test : k < slots_in s → RepeatsAt s k → repeats_at (table_in s) k ≡ true
    repeats_test l h = and_both (ap not (held_zeros s g k l h.0)) (go (has_serial (table_in s) (serial_at (table_in s) k) k) refl)
      where
        go : (b : Bool) → has_serial (table_in s) (serial_at (table_in s) k) k ≡ b → b ≡ true
        go true e = refl
        go false e =
            let r = h.1 in
            absurd
            (serial_unused (table_in s) (serial_at (table_in s) k) k e r.0 r.1
            (ap not (held_zeros s g r.0 (omega (arith, r.1)) r.2)) r.3)

  module _ (n : ℕ) (l : n ≤ slots_in s) where
    none_spoiled : ((j : ℕ) → j < n → spoiled_at (head_in s) (table_in s) j ≡ false) → NoneBelow (SpoiledAt s) n
    none_spoiled f j m h = not_both _ (spoiled_test j (omega arith) h) (f j m)

    none_repeats : ((j : ℕ) → j < n → repeats_at (table_in s) j ≡ false) → NoneBelow (RepeatsAt s) n
    none_repeats f j m h = not_both _ (repeats_test j (omega arith) h) (f j m)

  held_is : held_in s ≡ held_below (table_in s) (slots_in s)
  held_is = count_held (head_in s) (table_in s) (slots_in s)

  -- ---- each search, and what it finds or rules out

  all_good : first_spoiled (head_in s) (table_in s) ≡ None → NoneBelow (SpoiledAt s) (slots_in s)
  unfolding first_spoiled
  all_good e =
      let q = nowhere_none (spoiled_at (head_in s) (table_in s)) 0 (slots_in s) e in
      none_spoiled (slots_in s) (omega arith) (λ j l. q.lacks j (omega arith) (omega arith))

  all_fresh : first_repeat (head_in s) (table_in s) ≡ None → NoneBelow (RepeatsAt s) (slots_in s)
  unfolding first_repeat
  all_fresh e =
      let q = nowhere_none (repeats_at (table_in s)) 0 (slots_in s) e in
      none_repeats (slots_in s) (omega arith) (λ j l. q.lacks j (omega arith) (omega arith))

  module _ (p : ℕ) where
    spoiled_fault : first_spoiled (head_in s) (table_in s) ≡ Some p → FaultAt s p
    unfolding first_spoiled
    spoiled_fault e =
        let q = at_lowest (spoiled_at (head_in s) (table_in s)) 0 (slots_in s) p e in
        let l : p < slots_in s = omega (arith, q.below) in
        spoiled l (test_spoiled p q.has) (none_spoiled p (omega arith) (λ j m. q.least j (omega arith) m))

    repeated_fault : NoneBelow (SpoiledAt s) (slots_in s) → first_repeat (head_in s) (table_in s) ≡ Some p → FaultAt s p
    unfolding first_repeat
    repeated_fault good e =
        let q = at_lowest (repeats_at (table_in s)) 0 (slots_in s) p e in
        let l : p < slots_in s = omega (arith, q.below) in
        repeated good l (test_repeats p q.has) (none_repeats p (omega arith) (λ j m. q.least j (omega arith) m))

    miscount-fault : NoneBelow (SpoiledAt s) (slots_in s) → NoneBelow (RepeatsAt s) (slots_in s) → miscount (head_in s) (table_in s) ≡ Some p → FaultAt s p
    unfolding miscount
    miscount-fault good fresh e = go (eqb ((head_in s).taken - (head_in s).delivered) (held_below (table_in s) (slots_in s))) refl e
      where
        go : (b : Bool) → eqb ((head_in s).taken - (head_in s).delivered) (held_below (table_in s) (slots_in s)) ≡ b → cond b None (Some (slots_in s)) ≡ Some p
            → FaultAt s p
        go true f q = clash cc
        go false f q = miscounted good fresh (λ c. eqb-false _ _ f (c ∙ held_is)) cc

    -- ---- the first fault

    pub fault_there : fault_in (head_in s) (table_in s) ≡ Some p → FaultAt s p
    unfolding fault_in
    fault_there e = elim (first_or (first_spoiled (head_in s) (table_in s)) _ e) [
      | inl a ↦ spoiled_fault a
      | inr a ↦ elim (first_or (first_repeat (head_in s) (table_in s)) _ a.1) [
        | inl b ↦ repeated_fault (all_good a.0) b
        | inr b ↦ elim (first_or (miscount (head_in s) (table_in s)) _ b.1) [
          | inl c ↦ miscount-fault (all_good a.0) (all_fresh b.0) c
          | inr c ↦ let n = c.1 in clash cc
        ]
      ]
    ]

    pub no_fault : fault_in (head_in s) (table_in s) ≡ None → FaultAt s p → ⊥
    no_fault e (spoiled l h u) = let q = (fault_none (head_in s) (table_in s) e).sound in not_both _ (spoiled_test p l h) (q.lacks p (omega arith) (omega arith))
    no_fault e (repeated u l h v) = let q = (fault_none (head_in s) (table_in s) e).single in not_both _ (repeats_test p l h) (q.lacks p (omega arith) (omega arith))
    no_fault e (miscounted u v m w) = m ((fault_none (head_in s) (table_in s) e).counted ∙ sym held_is)
