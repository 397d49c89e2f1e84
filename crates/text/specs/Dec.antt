-- A number in decimal, as a list of bytes: no leading zero, and 0 is `0`.
-- Assumes nothing.
use Rattle.std.specs.Prelude.{ℕ, zero, suc, ◌+◌, ◌/◌, ◌%◌, true, false, List, [], ◌∷◌, ◌++◌, ltb}

-- `dec_from k n` is right wherever n < k: k only bounds the recursion
unfoldable pub dec_from : ℕ → ℕ → List ℕ
dec_from zero n = []
dec_from (suc k) n = elim (ltb n 10) [ true ↦ (48 + n) ∷ [] | false ↦ dec_from k (n / 10) ++ ((48 + n % 10) ∷ []) ]

unfoldable pub dec : ℕ → List ℕ
dec n = dec_from (suc n) n
