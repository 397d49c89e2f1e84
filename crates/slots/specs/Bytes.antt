-- Runs of bytes in a list: the part of n bytes at an offset, the list with a run of bytes put over its own, and numbers of four bytes.
-- Assumes nothing.
use Rattle.std.specs.Prelude.{ℕ, ◌+◌, ◌*◌, ◌/◌, ◌%◌, ◌<◌, List, [], ◌∷◌, ◌++◌, length, get_or, take, drop}
use Rattle.network.specs.Lists.{All}

-- the n bytes from offset at
abbrev pub part : List ℕ → ℕ → ℕ → List ℕ
part s at n = take n (drop at s)

-- s with the bytes v in place of its own from offset at
abbrev pub put : List ℕ → ℕ → List ℕ → List ℕ
put s at v = take at s ++ (v ++ drop (length v) (drop at s))

-- the little-endian number of the four bytes from offset at
abbrev pub le32 : List ℕ → ℕ → ℕ
le32 s at = get_or s at 0 + 256 * get_or s (at + 1) 0 + 65536 * get_or s (at + 2) 0 + 16777216 * get_or s (at + 3) 0

-- a number's four bytes, the lowest first
unfoldable pub bytes32 : ℕ → List ℕ
bytes32 n = n % 256 ∷ n / 256 % 256 ∷ n / 65536 % 256 ∷ n / 16777216 % 256 ∷ []

-- what can be lent: a list of bytes
abbrev pub Bytes : List ℕ → Type 0
Bytes s = All (λ (x : ℕ). x < 256) s
