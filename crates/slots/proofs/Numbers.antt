-- A number written is the number read, and what else is read is as it was.
-- Assumes nothing.
use Prim.Native.Nat.{ℕ, ◌+◌, ◌*◌, ◌/◌, ◌%◌, ◌^◌, ◌≤◌, ◌<◌}
use mathlib.Core.Path.{◌≡◌, refl, sym, ap, ◌∙◌}
use mathlib.Core.List.{List}
use native.Mathlib.Omega.{arith}
use native.Mathlib.Nat.{add-zero, div-div-eq-div-mul}
use lib.ListN.{length, get_or, take, drop, get_or-append}
use lib.Seq.{get_or-drop, get_or-take, length-take-le}
use Rattle.slots.specs.Bytes.{part, put, le32, bytes32}
use Rattle.slots.proofs.Parts.{drop-put-at, part-put-after, part-put_before}

-- ---- a byte of a list with bytes put over its own

pub get_or-put_before : (s : List ℕ) (at : ℕ) (v : List ℕ) (i : ℕ) → at ≤ length s → i < at → get_or (put s at v) i 0 ≡ get_or s i 0
get_or-put_before s at v i h k = get_or-append (take at s) _ 0 i (rw (length-take-le at s h) k) ∙ get_or-take at s i 0 k

pub get_or-put_in : (s : List ℕ) (at : ℕ) (v : List ℕ) (i : ℕ) → at ≤ length s → i < length v
    → get_or (put s at v) (at + i) 0 ≡ get_or v i 0
get_or-put_in s at v i h k =
    sym (get_or-drop at (put s at v) i 0) ∙ ap (λ (l : List ℕ). get_or l i 0) (drop-put-at s at v h) ∙ get_or-append v _ 0 i k

-- ---- four bytes

pub length-bytes32 : (n : ℕ) → length (bytes32 n) ≡ 4
unfolding bytes32
length-bytes32 n = refl

pub digits : (n : ℕ) → n < 2 ^ 32
    → n % 256 + 256 * (n / 256 % 256) + 65536 * (n / 65536 % 256) + 16777216 * (n / 16777216 % 256) ≡ n
digits n h = omega (arith, div-div-eq-div-mul n 256 256, div-div-eq-div-mul n 65536 256, div-div-eq-div-mul n 16777216 256)

pub le32-put : (s : List ℕ) (at n : ℕ) → at + 4 ≤ length s → n < 2 ^ 32 → le32 (put s at (bytes32 n)) at ≡ n
unfolding bytes32
le32-put s at n h k =
    let v : List ℕ = bytes32 n in
    let b0 : get_or (put s at v) at 0 ≡ n % 256 = rw add-zero at (get_or-put_in s at v 0 (omega arith) (omega arith)) in
    let b1 : get_or (put s at v) (at + 1) 0 ≡ n / 256 % 256 = get_or-put_in s at v 1 (omega arith) (omega arith) in
    let b2 : get_or (put s at v) (at + 2) 0 ≡ n / 65536 % 256 = get_or-put_in s at v 2 (omega arith) (omega arith) in
    let b3 : get_or (put s at v) (at + 3) 0 ≡ n / 16777216 % 256 = get_or-put_in s at v 3 (omega arith) (omega arith) in
    rw (b0, b1, b2, b3) (digits n k)

-- a number is read of its four bytes alone, so the laws of `part` say where it is as it was
pub le32-part : (s : List ℕ) (b : ℕ) → le32 (part s b 4) 0 ≡ le32 s b
le32-part s b =
    let g : (i : ℕ) → i < 4 → get_or (part s b 4) i 0 ≡ get_or s (b + i) 0 = λ i h. get_or-take 4 (drop b s) i 0 h ∙ get_or-drop b s i 0 in
    let g0 : get_or (part s b 4) 0 0 ≡ get_or s b 0 = rw add-zero at (g 0 (omega arith)) in
    rw (g0, g 1 (omega arith), g 2 (omega arith), g 3 (omega arith))

pub le32_same : (s t : List ℕ) (a b : ℕ) → part s a 4 ≡ part t b 4 → le32 s a ≡ le32 t b
le32_same s t a b e = sym (le32-part s a) ∙ ap (λ (p : List ℕ). le32 p 0) e ∙ le32-part t b

pub le32-put-after : (s : List ℕ) (at : ℕ) (v : List ℕ) (b : ℕ) → at ≤ length s → at + length v ≤ b → le32 (put s at v) b ≡ le32 s b
le32-put-after s at v b h k = le32_same (put s at v) s b b (part-put-after s at v b 4 h k)

pub le32-put_before : (s : List ℕ) (at : ℕ) (v : List ℕ) (b : ℕ) → at ≤ length s → b + 4 ≤ at → le32 (put s at v) b ≡ le32 s b
le32-put_before s at v b h k = le32_same (put s at v) s b b (part-put_before s at v b 4 h k)
