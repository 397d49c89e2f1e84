-- A list of bytes stays one where bytes are taken of it or put into it; and four bytes are those of their number.
-- Assumes nothing.
use Prim.Native.Nat.{ℕ, zero, suc, ◌+◌, ◌*◌, ◌/◌, ◌%◌, ◌<◌}
use mathlib.Core.Path.{◌≡◌}
use mathlib.Core.List.{List, [], ◌∷◌, ◌++◌}
use native.Mathlib.Omega.{arith}
use lib.ListN.{length, get_or, set, take, drop, replicate}
use Rattle.slots.specs.Bytes.{put, bytes32, Bytes}
use Rattle.slots.specs.Slots.{slot_at, with_slot}

pub byte_small : (s : List ℕ) → Bytes s → (i : ℕ) → get_or s i 0 < 256
byte_small [] b i = omega arith
byte_small (x ∷ s) b zero = b.0
byte_small (x ∷ s) b (suc i) = byte_small s b.1 i

pub bytes-append : (s u : List ℕ) → Bytes s → Bytes u → Bytes (s ++ u)
bytes-append [] u b c = c
bytes-append (x ∷ s) u b c = (b.0, bytes-append s u b.1 c)

pub bytes_take : (n : ℕ) (s : List ℕ) → Bytes s → Bytes (take n s)
bytes_take zero s b = tt
bytes_take (suc n) [] b = tt
bytes_take (suc n) (x ∷ s) b = (b.0, bytes_take n s b.1)

pub bytes_drop : (n : ℕ) (s : List ℕ) → Bytes s → Bytes (drop n s)
bytes_drop zero s b = b
bytes_drop (suc n) [] b = tt
bytes_drop (suc n) (x ∷ s) b = bytes_drop n s b.1

pub bytes-set : (s : List ℕ) (i x : ℕ) → x < 256 → Bytes s → Bytes (set s i x)
bytes-set [] i x l b = tt
bytes-set (y ∷ s) zero x l b = (l, b.1)
bytes-set (y ∷ s) (suc i) x l b = (b.0, bytes-set s i x l b.1)

pub bytes-zeros : (n : ℕ) → Bytes (replicate n 0)
bytes-zeros zero = tt
bytes-zeros (suc n) = (omega arith, bytes-zeros n)

pub bytes-number : (n : ℕ) → Bytes (bytes32 n)
unfolding bytes32
bytes-number n = (omega arith, (omega arith, (omega arith, (omega arith, tt))))

pub bytes-put : (s : List ℕ) (at : ℕ) (v : List ℕ) → Bytes s → Bytes v → Bytes (put s at v)
bytes-put s at v b c =
    bytes-append (take at s) (v ++ drop (length v) (drop at s)) (bytes_take at s b)
    (bytes-append v (drop (length v) (drop at s)) c (bytes_drop (length v) (drop at s) (bytes_drop at s b)))

pub bytes_slot : (t : List ℕ) (k : ℕ) → Bytes t → Bytes (slot_at t k)
unfolding slot_at
bytes_slot t k b = bytes_take 16 (drop (16 * k) t) (bytes_drop (16 * k) t b)

pub bytes-with_slot : (t : List ℕ) (k : ℕ) (v : List ℕ) → Bytes t → Bytes v → Bytes (with_slot t k v)
unfolding with_slot
bytes-with_slot t k v b c = bytes-put t (16 * k) v b c

pub number_back : (a b c d : ℕ) → a < 256 → b < 256 → c < 256 → d < 256 → bytes32 (a + 256 * b + 65536 * c + 16777216 * d) ≡ a ∷ b ∷ c ∷ d ∷ []
unfolding bytes32
number_back a b c d l m n o =
    let w = a + 256 * b + 65536 * c + 16777216 * d in
    let e0 : w % 256 ≡ a = omega arith in
    let q1 : w / 256 ≡ b + 256 * c + 65536 * d = omega arith in
    let q2 : w / 65536 ≡ c + 256 * d = omega arith in
    let q3 : w / 16777216 ≡ d = omega arith in
    let e1 : w / 256 % 256 ≡ b = rw q1 (omega arith) in
    let e2 : w / 65536 % 256 ≡ c = rw q2 (omega arith) in
    let e3 : w / 16777216 % 256 ≡ d = rw q3 (omega arith) in
    λ i. e0 i ∷ e1 i ∷ e2 i ∷ e3 i ∷ []
