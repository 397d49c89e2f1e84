-- Laws of `dec`: one digit, and more than one; how long it is; and some numbers.
-- Assumes nothing.
use Prim.Native.Nat.{ℕ, zero, suc, ◌+◌, ◌/◌, ◌*◌, ◌%◌, ◌^◌, ◌≤◌, ◌<◌}
use mathlib.Core.Path.{◌≡◌, refl, ap, sym, ◌∙◌}
use mathlib.Core.List.{List, [], ◌∷◌, ◌++◌, map}
use native.Mathlib.Decide.{dec_lt}
use native.Mathlib.Nat.{pow-suc}
use native.Mathlib.Omega.{arith}
use lib.ListN.{length, length-append}
use borrow.Author.Tests.{lt-ltb, le-ltb}
use Rattle.text.specs.Dec.{dec, dec_from}
use Rattle.text.specs.Text.{text}

-- what holds of one digit, and of n where it holds of n / 10, holds of every number
ind_below : (P : ℕ → Type 0) → ((n : ℕ) → n < 10 → P n) → ((n : ℕ) → 10 ≤ n → P (n / 10) → P n) → (k n : ℕ) → n < k → P n
ind_below P small more zero n h = absurd (omega arith)
ind_below P small more (suc k) n h =
    let ih : n / 10 < k → P (n / 10) = ind_below P small more k (n / 10) in
    elim (dec_lt n 10) [ yes p ↦ small n p | no q ↦ more n (omega arith) (ih (omega arith)) ]

pub dec_ind : (P : ℕ → Type 0) → ((n : ℕ) → n < 10 → P n) → ((n : ℕ) → 10 ≤ n → P (n / 10) → P n) → (n : ℕ) → P n
dec_ind P small more n = ind_below P small more (suc n) n (omega arith)

from_small : (k n : ℕ) → n < 10 → dec_from (suc k) n ≡ (48 + n) ∷ []
unfolding dec_from
from_small k n h = rw (lt-ltb n 10 h, dec_from)

from_more : (k n : ℕ) → 10 ≤ n → dec_from (suc k) n ≡ dec_from k (n / 10) ++ ((48 + n % 10) ∷ [])
unfolding dec_from
from_more k n h = rw (le-ltb n 10 h, dec_from)

-- any bound above n will do
from_same : (n j k : ℕ) → n < j → n < k → dec_from j n ≡ dec_from k n
from_same = dec_ind (λ n. (j k : ℕ) → n < j → n < k → dec_from j n ≡ dec_from k n) small more
  where
    small : (n : ℕ) → n < 10 → (j k : ℕ) → n < j → n < k → dec_from j n ≡ dec_from k n
    small n h zero k p q = absurd (omega arith)
    small n h (suc j) zero p q = absurd (omega arith)
    small n h (suc j) (suc k) p q = from_small j n h ∙ sym (from_small k n h)

    more : (n : ℕ) → 10 ≤ n → ((j k : ℕ) → n / 10 < j → n / 10 < k → dec_from j (n / 10) ≡ dec_from k (n / 10)) → (j k : ℕ) → n < j → n < k → dec_from j n ≡ dec_from k n
    more n h ih zero k p q = absurd (omega arith)
    more n h ih (suc j) zero p q = absurd (omega arith)
    more n h ih (suc j) (suc k) p q =
        from_more j n h ∙ ap (λ (l : List ℕ). l ++ ((48 + n % 10) ∷ [])) (ih j k (omega arith) (omega arith)) ∙ sym (from_more k n h)

pub dec_small : (n : ℕ) → n < 10 → dec n ≡ (48 + n) ∷ []
unfolding dec
dec_small n h = from_small n n h

pub dec_more : (n : ℕ) → 10 ≤ n → dec n ≡ dec (n / 10) ++ ((48 + n % 10) ∷ [])
unfolding dec
dec_more n h =
    from_more n n h ∙ ap (λ (l : List ℕ). l ++ ((48 + n % 10) ∷ [])) (from_same (n / 10) n (suc (n / 10)) (omega arith) (omega arith))

pub length_small : (n : ℕ) → n < 10 → length (dec n) ≡ 1
length_small n h = ap length (dec_small n h)

pub length_more : (n : ℕ) → 10 ≤ n → length (dec n) ≡ length (dec (n / 10)) + 1
length_more n h = ap length (dec_more n h) ∙ simp length-append

-- a number below 10 ^ (k + 1) has at most k + 1 digits
pub length-dec : (k n : ℕ) → n < 10 ^ suc k → length (dec n) ≤ suc k
length-dec zero n h = omega (arith, length_small n (omega (arith, h)))
length-dec (suc k) n h =
    let ih : n / 10 < 10 ^ suc k → length (dec (n / 10)) ≤ suc k = length-dec k (n / 10) in
    let e : 10 ^ suc (suc k) ≡ 10 ^ suc k * 10 = pow-suc 10 (suc k) in
    elim (dec_lt n 10) [
      | yes p ↦ omega (arith, length_small n p)
      | no q ↦ omega (arith, length_more n (omega arith), ih (omega arith))
    ]

pub length_u32 : (n : ℕ) → n < 2 ^ 32 → length (dec n) ≤ 10
length_u32 n h = length-dec 9 n (omega arith)

pub some_numbers : map dec (0 ∷ 9 ∷ 10 ∷ 1994 ∷ 65536 ∷ 4294967295 ∷ [])
    ≡ text "0" ∷ text "9" ∷ text "10" ∷ text "1994" ∷ text "65536" ∷ text "4294967295" ∷ []
unfolding dec dec_from
some_numbers = refl
