-- A fresh table: how it is made, and that its trailer is good and its slots are empty.
-- Assumes nothing.
use Rattle.std.specs.Prelude.{Some}
use Prim.Native.Nat.{ℕ, ◌+◌, ◌-◌, ◌*◌, ◌<◌, ◌^◌, zero-le}
use mathlib.Core.Path.{◌≡◌, refl, sym, ap, ◌∙◌}
use mathlib.Core.List.{List, ◌++◌, append_assoc}
use native.Mathlib.Omega.{arith}
use lib.ListN.{length, take, replicate, length-append, length-replicate, replicate-append-replicate}
use lib.Seq.{drop_at, take_at}
use Rattle.slots.specs.Bytes.{bytes32}
use Rattle.slots.specs.Slots.{slot_at, with_slot, empty_slot}
use Rattle.slots.proofs.Parts.{put_whole}
use Rattle.slots.proofs.Numbers.{digits}
use Rattle.board.specs.declared.Board.{Board}
use Rattle.board.specs.Board.{GoodBoard}
use Rattle.board.specs.Layout.{layout_of, table_size}
use Rattle.board.proofs.BoardLaws.{slots_most}
use Rattle.trailer.specs.declared.Head.{Head}
use Rattle.trailer.specs.Trailer.{head_of, trailer_of, last16, trailer_bytes, fresh}
use Rattle.trailer.proofs.TrailerLaws.{good_trailer}

pub length-trailer_bytes : (b : Board) (p d : ℕ) → length (trailer_bytes b p d) ≡ 16
unfolding trailer_bytes bytes32
length-trailer_bytes b p d = refl

-- n zeros
abbrev blank : ℕ → List ℕ
blank n = replicate n 0

length-blank : (n : ℕ) → length (blank n) ≡ n
length-blank n = length-replicate n 0

blank_add : (n m : ℕ) → blank (n + m) ≡ blank n ++ blank m
blank_add n m = sym (replicate-append-replicate n m 0)

-- zeros, and then the trailer in the place of one more slot
pub fresh_made : (b : Board) → with_slot (replicate (table_size b) 0) (layout_of b).size (trailer_bytes b 0 0) ≡ fresh b
unfolding fresh with_slot
fresh_made b =
    let n : ℕ = 16 * (layout_of b).size in
    let z : List ℕ = trailer_bytes b 0 0 in
    let l : n + length z ≡ length (blank (n + 16)) = rw (length-trailer_bytes b 0 0, length-blank (n + 16)) in
    let a : take n (blank (n + 16)) ≡ blank n = ap (take n) (blank_add n 16) ∙ take_at (blank n) (blank 16) n (length-blank n) in
    put_whole (blank (n + 16)) n z l ∙ rw a

pub length_fresh : (b : Board) → length (fresh b) ≡ table_size b
unfolding fresh
length_fresh b = simp (length-append, length-replicate, length-trailer_bytes)

-- what its trailer says
abbrev pub fresh_head : Board → Head
fresh_head b = record { board = b; taken = 0; delivered = 0; size = table_size b }

-- a trailer says the board and the counts that it was made of
pub head_made : {b : Board} → GoodBoard b → (taken delivered : ℕ) → taken < 2 ^ 32 → delivered < 2 ^ 32
    → head_of (trailer_bytes b taken delivered) ≡ record { board = b; taken = taken; delivered = delivered; size = table_size b }
unfolding trailer_bytes bytes32
head_made {b} g taken delivered l m = rw (digits taken l, digits delivered m, digits (table_size b) (omega (arith, slots_most b g)))

last_fresh : (b : Board) → last16 (fresh b) ≡ trailer_bytes b 0 0
unfolding fresh
last_fresh b =
    let n : ℕ = 16 * (layout_of b).size in
    let at : length (fresh b) - 16 ≡ n = omega (arith, length_fresh b) in
    rw at (drop_at (blank n) (trailer_bytes b 0 0) n (length-blank n))

pub fresh_good : {b : Board} → GoodBoard b → trailer_of (fresh b) ≡ Some (fresh_head b)
fresh_good {b} g =
    let l : length (fresh b) ≡ table_size b = length_fresh b in
    let z : last16 (fresh b) ≡ trailer_bytes b 0 0 = last_fresh b in
    good_trailer
    (record {
      long = omega arith;
      read = sym (ap head_of z ∙ head_made g 0 0 (omega arith) (omega arith));
      ranges = g;
      counts = zero-le;
      size_is = refl;
      size_in = omega arith;
    })

pub fresh_slots : (b : Board) (k : ℕ) → k < (layout_of b).size → slot_at (fresh b) k ≡ empty_slot
unfolding fresh slot_at
fresh_slots b k l =
    let a : ℕ = 16 * k in
    let r : ℕ = 16 * (layout_of b).size - (a + 16) in
    let n : 16 * (layout_of b).size ≡ a + (16 + r) = omega arith in
    rw (n, blank_add a (16 + r), append_assoc, drop_at (blank a) _ a (length-blank a), blank_add 16 r)
