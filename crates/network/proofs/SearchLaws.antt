-- The search for the lowest number with a property: a turn of its loop, and what its two answers mean.
-- Assumes nothing.
use Rattle.std.specs.Prelude.{Option, Some, None}
use Prim.Native.Nat.{ℕ, zero, suc, ◌+◌, ◌-◌, ◌≤◌, ◌<◌}
use mathlib.Core.Path.{◌≡◌, refl, sym, ap, ◌∙◌}
use mathlib.Core.Logic.{⊎_elim}
use mathlib.Core.Bool.{Bool, true, false, cond}
use native.Mathlib.Omega.{arith}
use native.Mathlib.Nat.{eq-or-lt_of_le}
use native.Mathlib.Numerals.{add-one}
use Rattle.network.specs.Search.{lowest_with, is_at, number_at, IsLowest, NoneWith}
use Rattle.network.proofs.Tests.{clash, cond_true, cond_false}

pub at_some : (r : Option ℕ) → is_at r ≡ true → r ≡ Some (number_at r)
at_some (Some k) e = refl
at_some None e = clash cc

pub at_none : (r : Option ℕ) → is_at r ≡ false → r ≡ None
at_none (Some k) e = clash cc
at_none None e = refl

module _ (p : ℕ → Bool) where
  -- a turn of a loop that ends at e
  pub lowest_step : (k e : ℕ) → k < e → lowest_with p k (e - k) ≡ cond (p k) (Some k) (lowest_with p (k + 1) (e - (k + 1)))
  lowest_step k e h =
      let q : e - k ≡ suc (e - (k + 1)) = omega arith in
      ap (lowest_with p k) q ∙ rw add-one refl

  -- those from b on are those from b + 1 on, and b
  from_next : (b k : ℕ) → p b ≡ false → ((j : ℕ) → suc b ≤ j → j < k → p j ≡ false) → (j : ℕ) → b ≤ j → j < k → p j ≡ false
  from_next b k q rest j l g = ⊎_elim (λ e. ap p (sym e) ∙ q) (λ e. rest j e g) (eq-or-lt_of_le l)

  pub at_lowest : (b n k : ℕ) → lowest_with p b n ≡ Some k → IsLowest p b n k
  at_lowest b zero k e = clash cc
  at_lowest b (suc n) k e = here (at_lowest (suc b) n k) (p b) refl e
    where
      here : (lowest_with p (suc b) n ≡ Some k → IsLowest p (suc b) n k) → (z : Bool) → p b ≡ z
          → cond z (Some b) (lowest_with p (suc b) n) ≡ Some k → IsLowest p b (suc n) k
      here rest true q e =
          let s : b ≡ k = cc in
          record { from = omega arith; below = omega arith; has = ap p (sym s) ∙ q; least = λ j l g. absurd (omega arith) }
      here rest false q e =
          let i = rest e in
          record { from = omega (arith, i.from); below = omega (arith, i.below); has = i.has; least = from_next b k q i.least }

  pub nowhere_none : (b n : ℕ) → lowest_with p b n ≡ None → NoneWith p b n
  nowhere_none b zero e = record { lacks = λ j l g. absurd (omega arith) }
  nowhere_none b (suc n) e = here (nowhere_none (suc b) n) (p b) refl e
    where
      here : (lowest_with p (suc b) n ≡ None → NoneWith p (suc b) n) → (z : Bool) → p b ≡ z
          → cond z (Some b) (lowest_with p (suc b) n) ≡ None → NoneWith p b (suc n)
      here rest true q e = clash cc
      here rest false q e = record { lacks = λ j l g. from_next b (b + suc n) q (λ i u v. (rest e).lacks i u (omega arith)) j l g }

  -- and the other way
  pub lowest_at : (b n k : ℕ) → IsLowest p b n k → lowest_with p b n ≡ Some k
  lowest_at b zero k l = absurd (omega (arith, l.from, l.below))
  lowest_at b (suc n) k l =
      ⊎_elim
      (λ e. cond_true (Some b) (lowest_with p (suc b) n) (ap p e ∙ l.has) ∙ ap Some e)
      (λ e.
      cond_false (Some b) (lowest_with p (suc b) n) (l.least b (omega arith) e)
      ∙ lowest_at (suc b) n k (record { from = e; below = omega (arith, l.below); has = l.has; least = λ j m g. l.least j (omega arith) g }))
      (eq-or-lt_of_le l.from)

  pub none_nowhere : (b n : ℕ) → NoneWith p b n → lowest_with p b n ≡ None
  none_nowhere b zero l = refl
  none_nowhere b (suc n) l =
      cond_false (Some b) (lowest_with p (suc b) n) (l.lacks b (omega arith) (omega arith))
      ∙ none_nowhere (suc b) n (record { lacks = λ j m g. l.lacks j (omega arith) (omega arith) })

  -- where one of them has the property, the search finds one
  pub some_at : (b n j : ℕ) → b ≤ j → j < b + n → p j ≡ true → (k : ℕ) × (lowest_with p b n ≡ Some k)
  some_at b n j l g z = go (lowest_with p b n) refl
    where
      go : (r : Option ℕ) → lowest_with p b n ≡ r → (k : ℕ) × (lowest_with p b n ≡ Some k)
      go (Some k) e = (k, e)
      go None e = let f = (nowhere_none b n e).lacks j l g in clash cc

-- it depends on the property of those numbers alone
pub lowest_same : (p q : ℕ → Bool) (b n : ℕ) → ((j : ℕ) → b ≤ j → j < b + n → p j ≡ q j) → lowest_with p b n ≡ lowest_with q b n
lowest_same p q b zero f = refl
lowest_same p q b (suc n) f =
    rw (f b (omega arith) (omega arith), lowest_same p q (suc b) n (λ j l g. f j (omega arith) (omega arith)))
