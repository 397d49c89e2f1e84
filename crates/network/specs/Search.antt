-- The lowest number with a property, by which slots, codes and faults are all looked for; and how many numbers have one.
-- Assumes nothing.
use Rattle.std.specs.Prelude.{ℕ, zero, suc, ◌+◌, ◌≤◌, ◌<◌, ◌≡◌, Bool, true, false, cond, Option, Some, None}

-- the lowest of the n numbers from k on with a property
abbrev pub lowest_with : (ℕ → Bool) → ℕ → ℕ → Option ℕ
lowest_with p k zero = None
lowest_with p k (suc n) = cond (p k) (Some k) (lowest_with p (suc k) n)

-- how many of the n numbers from k on have a property
abbrev pub count_with : (ℕ → Bool) → ℕ → ℕ → ℕ
count_with p k zero = 0
count_with p k (suc n) = let rest = count_with p (suc k) n in cond (p k) (suc rest) rest

-- was there one, and which
abbrev pub is_at : Option ℕ → Bool
is_at (Some k) = true
is_at None = false

abbrev pub number_at : Option ℕ → ℕ
number_at (Some k) = k
number_at None = 0

-- k is the lowest of the n numbers from b on with the property
pub record IsLowest (p : ℕ → Bool) (b n k : ℕ) : Type 0 where
  pub from : b ≤ k
  pub below : k < b + n
  pub has : p k ≡ true
  pub least : (j : ℕ) → b ≤ j → j < k → p j ≡ false

-- none of them has it
pub record NoneWith (p : ℕ → Bool) (b n : ℕ) : Type 0 where
  pub lacks : (j : ℕ) → b ≤ j → j < b + n → p j ≡ false
