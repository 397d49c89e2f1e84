-- Flags as bits of bytes. No call is defined by it: a reader may pass over this file.
-- Assumes nothing.
use Rattle.std.specs.Prelude.{ℕ, ◌+◌, ◌/◌, ◌%◌, List, Bool, cond, eqb, get_or, set}

abbrev pub weight_of : ℕ → ℕ
weight_of i =
    cond (eqb i 0) 1
    (cond (eqb i 1) 2
    (cond (eqb i 2) 4
    (cond (eqb i 3) 8
    (cond (eqb i 4) 16
    (cond (eqb i 5) 32
    (cond (eqb i 6) 64
    128))))))

-- bit i of a byte
abbrev pub bit_of : ℕ → ℕ → Bool
bit_of x i = eqb (x / weight_of i % 2) 1

unfoldable pub flag_at : List ℕ → ℕ → Bool
flag_at flags b = bit_of (get_or flags (b / 8) 0) (b % 8)

unfoldable pub raised : List ℕ → ℕ → List ℕ
raised flags b = set flags (b / 8) (get_or flags (b / 8) 0 + weight_of (b % 8))
