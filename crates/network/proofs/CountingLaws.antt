-- How many numbers have a property: a turn of a loop, the search for the lowest, the parts of a range, and one number more.
-- Assumes nothing.
use Rattle.std.specs.Prelude.{Some}
use Prim.Native.Nat.{ℕ, zero, suc, ◌+◌, ◌-◌, ◌≤◌, ◌<◌}
use mathlib.Core.Path.{◌≡◌, refl, sym, ap, ◌∙◌}
use mathlib.Core.Logic.{◌≢◌, ⊎_elim}
use mathlib.Core.Bool.{Bool, true, false, cond}
use native.Mathlib.Omega.{arith}
use native.Mathlib.Nat.{eq-or-lt_of_le}
use native.Mathlib.Numerals.{add-one}
use lib.Dec.{ltb}
use borrow.Author.Tests.{lt-ltb}
use Rattle.network.specs.Search.{lowest_with, count_with, is_at}

module _ (p : ℕ → Bool) where
  -- a turn of a loop that ends at e
  pub count_step : (k e : ℕ) → k < e → count_with p k (e - k) ≡ cond (p k) (suc (count_with p (k + 1) (e - (k + 1)))) (count_with p (k + 1) (e - (k + 1)))
  count_step k e h =
      let q : e - k ≡ suc (e - (k + 1)) = omega arith in
      ap (count_with p k) q ∙ rw add-one refl

  pub count_most : (k n : ℕ) → count_with p k n ≤ n
  count_most k zero = omega arith
  count_most k (suc n) = by (p k) (count_most (suc k) n)
    where
      by : (z : Bool) → count_with p (suc k) n ≤ n → cond z (suc (count_with p (suc k) n)) (count_with p (suc k) n) ≤ suc n
      by true rest = omega arith
      by false rest = omega arith

  -- there is a lowest exactly where some are counted
  pub count_search : (k n : ℕ) → is_at (lowest_with p k n) ≡ ltb 0 (count_with p k n)
  count_search k zero = refl
  count_search k (suc n) = by (p k) (count_search (suc k) n)
    where
      by : (z : Bool) → is_at (lowest_with p (suc k) n) ≡ ltb 0 (count_with p (suc k) n)
          → is_at (cond z (Some k) (lowest_with p (suc k) n)) ≡ ltb 0 (cond z (suc (count_with p (suc k) n)) (count_with p (suc k) n))
      by true rest = sym (lt-ltb 0 (suc (count_with p (suc k) n)) (omega arith))
      by false rest = rest

  pub count_none : (k n : ℕ) → ((j : ℕ) → k ≤ j → j < k + n → p j ≡ false) → count_with p k n ≡ 0
  count_none k zero f = refl
  count_none k (suc n) f = rw (f k (omega arith) (omega arith)) (count_none (suc k) n (λ j l g. f j (omega arith) (omega arith)))

  -- the first m numbers, and the n after them
  pub count_parts : (k m n : ℕ) → count_with p k (m + n) ≡ count_with p k m + count_with p (k + m) n
  count_parts k zero n = let a : k + 0 ≡ k = omega arith in let b : 0 + n ≡ n = omega arith in rw (a, b) (omega arith)
  count_parts k (suc m) n =
      let a : suc m + n ≡ suc (m + n) = omega arith in
      let b : k + suc m ≡ suc k + m = omega arith in
      rw (a, b) (by (p k) (count_parts (suc k) m n))
    where
      by : (z : Bool) → count_with p (suc k) (m + n) ≡ count_with p (suc k) m + count_with p (suc k + m) n
          → cond z (suc (count_with p (suc k) (m + n))) (count_with p (suc k) (m + n))
          ≡ cond z (suc (count_with p (suc k) m)) (count_with p (suc k) m) + count_with p (suc k + m) n
      by true rest = omega arith
      by false rest = rest

pub count_same : (p q : ℕ → Bool) (k n : ℕ) → ((j : ℕ) → k ≤ j → j < k + n → p j ≡ q j) → count_with p k n ≡ count_with q k n
count_same p q k zero f = refl
count_same p q k (suc n) f = rw (f k (omega arith) (omega arith), count_same p q (suc k) n (λ j l g. f j (omega arith) (omega arith)))

-- one number has the property more
pub count_more : (p q : ℕ → Bool) (k n j : ℕ) → k ≤ j → j < k + n → p j ≡ false → q j ≡ true
    → ((i : ℕ) → k ≤ i → i < k + n → i ≢ j → p i ≡ q i) → count_with q k n ≡ suc (count_with p k n)
count_more p q k zero j l g a b f = absurd (omega arith)
count_more p q k (suc n) j l g a b f =
    ⊎_elim
    (λ e.
    let before : p k ≡ false = ap p e ∙ a in
    let now : q k ≡ true = ap q e ∙ b in
    rw (before, now)
    (ap suc (sym (count_same p q (suc k) n (λ i m h. f i (omega arith) (omega arith) (λ u. omega arith))))))
    (λ e.
    by (q k) (f k (omega arith) (omega arith) (λ u. omega arith))
    (count_more p q (suc k) n j e (omega arith) a b (λ i m h u. f i (omega arith) (omega arith) u)))
    (eq-or-lt_of_le l)
  where
    by : (z : Bool) → p k ≡ z → count_with q (suc k) n ≡ suc (count_with p (suc k) n)
        → cond z (suc (count_with q (suc k) n)) (count_with q (suc k) n) ≡ suc (cond (p k) (suc (count_with p (suc k) n)) (count_with p (suc k) n))
    by true same rest = rw same (ap suc rest)
    by false same rest = rw same rest
