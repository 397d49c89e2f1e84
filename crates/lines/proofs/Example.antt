-- Document 01's example: the lines of its table, byte for byte; and the head line of such a table of profile 1 and 2 (document 02, order 2).
-- Assumes nothing.
use Prim.Native.Nat.{ℕ}
use mathlib.Core.Path.{◌≡◌, refl}
use mathlib.Core.List.{List, [], ◌∷◌, ◌++◌}
use lib.ListN.{replicate}
use Rattle.slots.specs.Slots.{slot_at}
use Rattle.board.specs.Board.{coordinates_of}
use Rattle.board.specs.Layout.{layout_of}
use Rattle.trailer.specs.declared.Head.{Head}
use Rattle.text.specs.Dec.{dec, dec_from}
use Rattle.text.specs.Text.{text}
use Rattle.lines.specs.Line.{Top, grid_text, counts_text, profile_text, head_line, node_text, place_text, packet_text, slot_line, last_line, line_text, joined}
use Rattle.lines.specs.Lines.{row_at, rows_in, onto, whole_lines, lines_of, table_text}

-- a 2 by 1 grid of depth 1, one packet taken in from (0,0) to (1,0)
abbrev pub packet : List ℕ
packet = 1 ∷ 0 ∷ 1 ∷ 0 ∷ 0 ∷ 0 ∷ 0 ∷ 0 ∷ 1 ∷ 2 ∷ 3 ∷ 4 ∷ 5 ∷ 6 ∷ 7 ∷ 8 ∷ []

abbrev pub trailer : List ℕ
trailer = 2 ∷ 1 ∷ 1 ∷ 0 ∷ 1 ∷ 0 ∷ 0 ∷ 0 ∷ 0 ∷ 0 ∷ 0 ∷ 0 ∷ 112 ∷ 0 ∷ 0 ∷ 0 ∷ []

abbrev pub head : Head
head = record { board = record { width = 2; height = 1; depth = 1; profile = 0 }; taken = 1; delivered = 0; size = 112 }

pub table_example : table_text head (packet ++ replicate 80 0 ++ trailer)
    ≡ text "grid 2 1 depth 1 taken 1 delivered 0\n0 W 0,0 from 0,0 to 1,0 hops 0 serial 0\nheld 1\n"
unfolding table_text lines_of whole_lines onto rows_in row_at joined line_text head_line grid_text counts_text profile_text slot_line place_text packet_text node_text coordinates_of last_line dec dec_from slot_at layout_of
table_example = refl

abbrev top_by : ℕ → Top
top_by profile = record { board = record { width = 2; height = 1; depth = 1; profile = profile }; taken = 1; delivered = 0 }

pub profile_example : (head_line (top_by 1) ≡ text "grid 2 1 depth 1 taken 1 delivered 0 profile 1\n")
    × (head_line (top_by 2) ≡ text "grid 2 1 depth 1 taken 1 delivered 0 profile 2\n")
unfolding head_line grid_text counts_text profile_text dec dec_from
profile_example = (refl, refl)
