-- Lines and their text: joined lines are joined texts, and a row put in front of the others is a line after theirs.
-- Assumes nothing.
use Prim.Native.Nat.{ℕ, ◌+◌}
use mathlib.Core.Path.{◌≡◌, refl, sym, ap, ◌∙◌}
use mathlib.Core.List.{List, [], ◌∷◌, ◌++◌, append_assoc, append-nil}
use lib.ListN.{length, length-append}
use Rattle.board.specs.declared.Board.{Board}
use Rattle.lines.specs.Line.{Top, Row, Line, row, line_text, head_line, slot_line, last_line, joined}
use Rattle.lines.specs.Lines.{onto, whole_lines, rows_text}

-- lines before others, through the turn
pub onto-append : (rs : List Row) (ls ms : List Line) → onto rs (ls ++ ms) ≡ onto rs ls ++ ms
unfolding onto
onto-append [] ls ms = refl
onto-append (r ∷ rs) ls ms = onto-append rs (row r ∷ ls) ms

onto-both : (rs ss : List Row) (ls : List Line) → onto (rs ++ ss) ls ≡ onto ss (onto rs ls)
unfolding onto
onto-both [] ss ls = refl
onto-both (r ∷ rs) ss ls = onto-both rs ss (row r ∷ ls)

module _ (b : Board) where
  pub joined-append : (ls ms : List Line) → joined b (ls ++ ms) ≡ joined b ls ++ joined b ms
  unfolding joined
  joined-append [] ms = refl
  joined-append (l ∷ ls) ms =
      ap (λ (s : List ℕ). line_text b l ++ s) (joined-append ls ms) ∙ sym (append_assoc (line_text b l) (joined b ls) (joined b ms))

  pub joined-onto : (rs : List Row) (ls : List Line) → joined b (onto rs ls) ≡ rows_text b rs ++ joined b ls
  joined-onto rs ls = ap (joined b) (onto-append rs [] ls) ∙ joined-append (onto rs []) ls

  pub rows_none : rows_text b [] ≡ []
  unfolding onto joined
  rows_none = refl

  pub rows_one : (r : Row) → rows_text b (r ∷ []) ≡ slot_line b r
  unfolding onto joined line_text
  rows_one r = append-nil (slot_line b r)

  pub rows_both : (rs ss : List Row) → rows_text b (rs ++ ss) ≡ rows_text b ss ++ rows_text b rs
  rows_both rs ss = ap (joined b) (onto-both rs ss []) ∙ joined-onto ss (onto rs [])

  pub length_rows : (rs ss : List Row) → length (rows_text b (rs ++ ss)) ≡ length (rows_text b ss) + length (rows_text b rs)
  length_rows rs ss = ap length (rows_both rs ss) ∙ length-append (rows_text b ss) (rows_text b rs)

  -- the whole listing: its head line, its rows, its last line
  pub whole_text : (p : Top) (rs : List Row) → joined b (whole_lines p rs) ≡ head_line p ++ rows_text b rs ++ last_line (length rs)
  unfolding whole_lines joined line_text
  whole_text p rs =
      ap (λ (s : List ℕ). head_line p ++ s)
      (joined-onto rs _ ∙ ap (λ (s : List ℕ). rows_text b rs ++ s) (append-nil (last_line (length rs))))
      ∙ sym (append_assoc (head_line p) (rows_text b rs) (last_line (length rs)))
