-- Bytes told by the number that they say, and lists told by their parts.
-- Assumes nothing.
use Prim.Native.Nat.{ℕ, suc, ◌+◌, ◌<◌, ◌≤◌}
use mathlib.Core.Path.{◌≡◌, sym, ap, ◌∙◌}
use mathlib.Core.List.{List, [], ◌∷◌, ◌++◌}
use native.Mathlib.Omega.{arith}
use lib.ListN.{length, get_or, take, drop, take-append-drop}
use lib.Seq.{drop-drop}
use Rattle.slots.specs.Bytes.{part, le32, bytes32, Bytes}
use Rattle.slots.proofs.Parts.{one_by_one_lem}
use Rattle.slots.proofs.ByteLaws.{byte_small, number_back}

-- four bytes are those of the number that they say
pub number-part : (v : List ℕ) (at : ℕ) → Bytes v → at + 4 ≤ length v → part v at 4 ≡ bytes32 (le32 v at)
number-part v at b l =
    let e1 : suc at ≡ at + 1 = omega arith in
    let e2 : suc (suc at) ≡ at + 2 = omega arith in
    let e3 : suc (suc (suc at)) ≡ at + 3 = omega arith in
    let small : (i : ℕ) → get_or v i 0 < 256 = byte_small v b in
    sym (one_by_one_lem v at 4 l)
    ∙ (λ i. get_or v at 0 ∷ get_or v (e1 i) 0 ∷ get_or v (e2 i) 0 ∷ get_or v (e3 i) 0 ∷ [])
    ∙ sym (number_back (get_or v at 0) (get_or v (at + 1) 0) (get_or v (at + 2) 0) (get_or v (at + 3) 0) (small at) (small (at + 1)) (small (at + 2)) (small (at + 3)))

module _ (v w : List ℕ) (b : Bytes v) (c : Bytes w) where
  -- lists that say the same number at a place, and are the same past it, are the same from that place
  pub number_same : (at : ℕ) → at + 4 ≤ length v → at + 4 ≤ length w → le32 v at ≡ le32 w at → drop (at + 4) v ≡ drop (at + 4) w → drop at v ≡ drop at w
  number_same at l m n e =
      let four : part v at 4 ≡ part w at 4 = number-part v at b l ∙ ap bytes32 n ∙ sym (number-part w at c m) in
      let rest : drop 4 (drop at v) ≡ drop 4 (drop at w) = drop-drop 4 at v ∙ e ∙ sym (drop-drop 4 at w) in
      sym (take-append-drop 4 (drop at v)) ∙ (λ i. four i ++ rest i) ∙ take-append-drop 4 (drop at w)

pub halves : (n : ℕ) (v w : List ℕ) → take n v ≡ take n w → drop n v ≡ drop n w → v ≡ w
halves n v w e f = sym (take-append-drop n v) ∙ (λ i. e i ++ f i) ∙ take-append-drop n w
