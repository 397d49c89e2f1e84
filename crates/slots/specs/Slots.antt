-- A table of slots of 16 bytes, as a list of bytes: slot k is the 16 bytes from offset 16 * k.
-- Assumes nothing.
use Rattle.std.specs.Prelude.{ℕ, ◌*◌, List, [], ◌∷◌, Bool, true, ◌&&◌, eqb, replicate}
use Rattle.std.specs.Simd.{first_chunks}
use Rattle.slots.specs.Bytes.{part, put}

unfoldable pub slot_at : List ℕ → ℕ → List ℕ
slot_at t k = part t (16 * k) 16

-- the table with slot k made v
unfoldable pub with_slot : List ℕ → ℕ → List ℕ → List ℕ
with_slot t k v = put t (16 * k) v

abbrev pub empty_slot : List ℕ
empty_slot = replicate 16 0

-- are all of them zero?
abbrev pub zeros : List ℕ → Bool
zeros [] = true
zeros (x ∷ xs) = eqb x 0 && zeros xs

-- the first n slots, each as a list
abbrev pub slots_of : ℕ → List ℕ → List (List ℕ)
slots_of = first_chunks 16
