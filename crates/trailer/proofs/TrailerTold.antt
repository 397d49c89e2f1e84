-- What tells a trailer: a number of it and the bytes on both sides; or its head.
-- Assumes nothing.
use Prim.Native.Nat.{ℕ, ◌+◌, ◌-◌, ◌≤◌}
use mathlib.Core.Path.{◌≡◌, sym, ap, ◌∙◌}
use mathlib.Core.List.{List, [], ◌∷◌}
use native.Mathlib.Omega.{arith}
use lib.ListN.{length, get_or, take, drop, length-drop}
use lib.Seq.{drop-length}
use Rattle.slots.specs.Bytes.{le32, Bytes}
use Rattle.slots.proofs.Parts.{one_by_one_lem}
use Rattle.slots.proofs.ByteLaws.{bytes_drop}
use Rattle.slots.proofs.NumberLaws.{number_same, halves}
use Rattle.trailer.specs.declared.Head.{Head}
use Rattle.trailer.specs.Trailer.{head_of, last16}

pub length_last : (u : List ℕ) → 16 ≤ length u → length (last16 u) ≡ 16
length_last u l = rw length-drop (omega arith)

pub bytes_last : (u : List ℕ) → Bytes u → Bytes (last16 u)
bytes_last u b = bytes_drop (length u - 16) u b

-- trailers that say the same number at a place, and are the same before it and past it, are the same
pub last_told : (u w : List ℕ) → Bytes u → Bytes w → 16 ≤ length u → 16 ≤ length w → (at : ℕ) → at ≤ 12 → take at (last16 u) ≡ take at (last16 w)
    → le32 (last16 u) at ≡ le32 (last16 w) at → drop (at + 4) (last16 u) ≡ drop (at + 4) (last16 w) → last16 u ≡ last16 w
last_told u w b c l m at n first number rest =
    let p = length_last u l in
    let q = length_last w m in
    halves at (last16 u) (last16 w) first
    (number_same (last16 u) (last16 w) (bytes_last u b) (bytes_last w c) at (omega arith) (omega arith) number rest)

-- a trailer is told by its head
pub trailer_told : (v w : List ℕ) → length v ≡ 16 → length w ≡ 16 → Bytes v → Bytes w → head_of v ≡ head_of w → v ≡ w
trailer_told v w l m b c h =
    let e0 : get_or v 0 0 ≡ get_or w 0 0 = ap (λ (x : Head). x.board.width) h in
    let e1 : get_or v 1 0 ≡ get_or w 1 0 = ap (λ (x : Head). x.board.height) h in
    let e2 : get_or v 2 0 ≡ get_or w 2 0 = ap (λ (x : Head). x.board.depth) h in
    let e3 : get_or v 3 0 ≡ get_or w 3 0 = ap (λ (x : Head). x.board.profile) h in
    let first : take 4 v ≡ take 4 w =
    sym (one_by_one_lem v 0 4 (omega arith)) ∙ (λ i. e0 i ∷ e1 i ∷ e2 i ∷ e3 i ∷ []) ∙ one_by_one_lem w 0 4 (omega arith) in
    let none : drop 16 v ≡ drop 16 w = ap (λ (n : ℕ). drop n v) (sym l) ∙ drop-length v ∙ sym (drop-length w) ∙ ap (λ (n : ℕ). drop n w) m in
    let at12 = number_same v w b c 12 (omega arith) (omega arith) (ap (λ (x : Head). x.size) h) none in
    let at8 = number_same v w b c 8 (omega arith) (omega arith) (ap (λ (x : Head). x.delivered) h) at12 in
    let at4 = number_same v w b c 4 (omega arith) (omega arith) (ap (λ (x : Head). x.taken) h) at8 in
    halves 4 v w first at4
