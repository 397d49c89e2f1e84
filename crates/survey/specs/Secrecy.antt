-- Document 01, "Outward copy": two tables that differ only in payloads of slots held in both and in bytes before the table.
-- Assumes nothing.
use Rattle.std.specs.Prelude.{ℕ, ◌+◌, ◌*◌, ◌<◌, ◌≡◌, ◌⊎◌, List, ◌++◌, false, length, take, drop, None}
use Rattle.slots.specs.Bytes.{le32}
use Rattle.slots.specs.Slots.{slot_at, zeros}
use Rattle.trailer.specs.Trailer.{trailer_of}

-- a slot's bytes in two tables: the same, or held in both and the same but for the payload
abbrev pub SameButPayload : List ℕ → List ℕ → Type 0
SameButPayload v w = (v ≡ w) ⊎ ((zeros v ≡ false) × (zeros w ≡ false) × (take 8 v ≡ take 8 w))

-- two tables of n slots, with one trailer, whose distance leads back to the table's first byte
pub record SameButPayloads (n : ℕ) (t w : List ℕ) : Type 0 where
  pub full : length t ≡ 16 * n + 16
  pub full_too : length w ≡ 16 * n + 16
  pub slots : (k : ℕ) → k < n → SameButPayload (slot_at t k) (slot_at w k)
  pub trailer : drop (16 * n) t ≡ drop (16 * n) w
  pub distance : le32 (drop (16 * n) t) 12 ≡ length t

-- two slices that end with such tables, or that have none
pub data Alike : List ℕ → List ℕ → Type 0 where
  tables : (p q : List ℕ) {n : ℕ} {t w : List ℕ} → SameButPayloads n t w → Alike (p ++ t) (q ++ w)
  neither : {s u : List ℕ} → trailer_of s ≡ None → trailer_of u ≡ None → Alike s u
