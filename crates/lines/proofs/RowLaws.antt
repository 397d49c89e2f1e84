-- Laws of the rows of a table: a slot's row and what tells it, the rows so far, and how many there are.
-- Assumes nothing.
use Prim.Native.Nat.{ℕ, zero, suc, ◌+◌, ◌-◌, ◌≤◌, ◌<◌}
use mathlib.Core.Path.{◌≡◌, refl, sym, ap, ◌∙◌}
use mathlib.Core.Bool.{Bool, true, false, not, cond}
use mathlib.Core.List.{List, [], ◌∷◌, ◌++◌}
use native.Mathlib.Decide.{dec_lt}
use native.Mathlib.Numerals.{add-one}
use native.Mathlib.Omega.{arith}
use lib.ListN.{length, take}
use Rattle.network.proofs.Tests.{cond_true, cond_false}
use Rattle.slots.specs.Slots.{slot_at, zeros}
use Rattle.board.specs.declared.Board.{Board}
use Rattle.board.specs.Layout.{layout_of}
use Rattle.trailer.specs.declared.Head.{Head}
use Rattle.table.specs.Held.{held_at, held_below}
use Rattle.table.proofs.PacketLaws.{fields_same}
use Rattle.lines.specs.Line.{slot_line, head_line, last_line}
use Rattle.lines.specs.Lines.{top_of, row_of, row_in, row_at, rows_in, lines_of, table_text, rows_text}
use Rattle.lines.proofs.LineLaws.{rows_none, rows_one, rows_both, length_rows, whole_text}

module _ (b : Board) (t : List ℕ) where
  module _ (k : ℕ) where
    pub row_empty : zeros (slot_at t k) ≡ true → rows_text b (row_at b t k) ≡ []
    unfolding row_at
    row_empty e = ap (rows_text b) (cond_false _ _ (ap not e)) ∙ rows_none b

    pub row_held : zeros (slot_at t k) ≡ false → rows_text b (row_at b t k) ≡ slot_line b (row_in b t k)
    unfolding row_at
    row_held e = ap (rows_text b) (cond_true _ _ (ap not e)) ∙ rows_one b (row_in b t k)

    -- told by the first eight bytes of its slot: it shows no payload
    pub row_told : (w : List ℕ) → take 8 (slot_at t k) ≡ take 8 (slot_at w k) → row_in b t k ≡ row_in b w k
    row_told w e = ap (row_of k ((layout_of b).place_of k)) (fields_same (slot_at t k) (slot_at w k) e)

    pub rows_more : rows_text b (rows_in b t (k + 1)) ≡ rows_text b (rows_in b t k) ++ rows_text b (row_at b t k)
    unfolding rows_in
    rows_more = rw add-one (rows_both b (row_at b t k) (rows_in b t k))

  pub no_rows : rows_text b (rows_in b t 0) ≡ []
  unfolding rows_in
  no_rows = rows_none b

  pub rows_longer : (n : ℕ) → length (rows_text b (rows_in b t (suc n))) ≡ length (rows_text b (rows_in b t n)) + length (rows_text b (row_at b t n))
  unfolding rows_in
  rows_longer n = length_rows b (row_at b t n) (rows_in b t n)

  -- as many as are held
  pub count_rows : (n : ℕ) → length (rows_in b t n) ≡ held_below t n
  unfolding rows_in row_at
  count_rows zero = refl
  count_rows (suc n) = go (held_at t n) (count_rows n)
    where
      go : (c : Bool) → length (rows_in b t n) ≡ held_below t n → length (cond c (row_in b t n ∷ []) [] ++ rows_in b t n) ≡ cond c 1 0 + held_below t n
      go true e = omega arith
      go false e = omega arith

  abbrev long : ℕ → ℕ
  long n = length (rows_text b (rows_in b t n))

  -- more slots, more text
  rows_grow : (n k : ℕ) → k ≤ n → long k ≤ long n
  rows_grow zero k l = let e : k ≡ 0 = omega arith in rw e (omega arith)
  rows_grow (suc n) k l = go (rows_grow n k)
    where
      go : (k ≤ n → long k ≤ long n) → long k ≤ long (suc n)
      go below = elim (dec_lt n k) [
        | yes p ↦ let e : k ≡ suc n = omega arith in rw e (omega arith)
        | no p ↦ let r : long k ≤ long n = below (omega arith) in omega (arith, rows_longer n)
      ]

  -- the next row and those before it are no longer than all
  pub row_within : (n k : ℕ) → k < n → length (rows_text b (rows_in b t k)) + length (rows_text b (row_at b t k)) ≤ length (rows_text b (rows_in b t n))
  row_within n k l =
      let here : long (k + 1) ≡ long k + length (rows_text b (row_at b t k)) = rw add-one (rows_longer k) in
      omega (arith, rows_grow n (k + 1) (omega arith))

module _ (h : Head) (t : List ℕ) where
  abbrev size : ℕ
  size = (layout_of h.board).size

  -- the head line and the rows, and then a last line
  abbrev listed : List ℕ → List ℕ
  listed s = head_line (top_of h) ++ rows_text h.board (rows_in h.board t size) ++ s

  pub table_is : table_text h t ≡ listed (last_line (held_below t size))
  unfolding table_text lines_of
  table_is =
      whole_text h.board (top_of h) (rows_in h.board t size) ∙ ap (λ (n : ℕ). listed (last_line n)) (count_rows h.board t size)

  -- where the counts agree with it, the number held is taken less delivered
  pub counted_is : h.taken - h.delivered ≡ held_below t size → table_text h t ≡ listed (last_line (h.taken - h.delivered))
  counted_is e = table_is ∙ ap (λ (n : ℕ). listed (last_line n)) (sym e)
