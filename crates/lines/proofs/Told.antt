-- A table's text is told by which of its slots are empty and by the first eight bytes of each: no line shows a payload.
-- Assumes nothing.
use Prim.Native.Nat.{ℕ, zero, suc, ◌≤◌, ◌<◌}
use mathlib.Core.Path.{◌≡◌, refl, ap}
use mathlib.Core.List.{List}
use native.Mathlib.Omega.{arith}
use lib.ListN.{take}
use Rattle.slots.specs.Slots.{slot_at}
use Rattle.board.specs.Layout.{layout_of}
use Rattle.trailer.specs.declared.Head.{Head}
use Rattle.table.specs.Queues.{empty_at}
use Rattle.lines.specs.Line.{Row, joined}
use Rattle.lines.specs.Lines.{top_of, row_at, rows_in, whole_lines, lines_of, table_text}
use Rattle.lines.proofs.RowLaws.{row_told}

module _ (h : Head) (t w : List ℕ)
    (empty : (k : ℕ) → k < (layout_of h.board).size → empty_at t k ≡ empty_at w k)
    (front : (k : ℕ) → k < (layout_of h.board).size → take 8 (slot_at t k) ≡ take 8 (slot_at w k)) where
  rows_told : (n : ℕ) → n ≤ (layout_of h.board).size → rows_in h.board t n ≡ rows_in h.board w n
  unfolding rows_in row_at
  rows_told zero l = refl
  rows_told (suc n) l = rw (empty n l, row_told h.board t n w (front n l), rows_told n (omega arith))

  pub text_told : table_text h t ≡ table_text h w
  unfolding table_text lines_of
  text_told = ap (λ (rs : List Row). joined h.board (whole_lines (top_of h) rs)) (rows_told _ (omega arith))
