-- The lines that list a table (document 01, "The listing program"): a head line, one line for each held slot in slot order, a last line with the
-- number held.
-- Assumes nothing.
use Rattle.std.specs.Prelude.{ℕ, zero, suc, ◌+◌, ◌*◌, cond, List, [], ◌∷◌, ◌++◌, length}
use Rattle.network.specs.declared.Place.{Place}
use Rattle.slots.specs.Slots.{slot_at}
use Rattle.board.specs.declared.Board.{Board}
use Rattle.board.specs.Layout.{layout_of}
use Rattle.trailer.specs.declared.Head.{Head}
use Rattle.table.specs.declared.packets.Fields.{Fields}
use Rattle.table.specs.Packets.{fields_of}
use Rattle.table.specs.Held.{held_at}
use Rattle.lines.specs.Line.{Top, Row, Line, top, row, last, joined}

abbrev pub top_of : Head → Top
top_of h = record { board = h.board; taken = h.taken; delivered = h.delivered }

abbrev pub row_of : ℕ → Place → Fields → Row
row_of slot here f = record {
  slot = slot;
  place = here;
  source = f.source;
  destination = f.destination;
  hops = f.hops;
  serial = f.serial;
}

abbrev pub row_in : Board → List ℕ → ℕ → Row
row_in b t k = row_of k ((layout_of b).place_of k) (fields_of (slot_at t k))

-- the row of slot k, or none where it is empty
unfoldable pub row_at : Board → List ℕ → ℕ → List Row
row_at b t k = cond (held_at t k) (row_in b t k ∷ []) []

-- the held slots below n, the highest first
unfoldable pub rows_in : Board → List ℕ → ℕ → List Row
rows_in b t zero = []
rows_in b t (suc n) = row_at b t n ++ rows_in b t n

-- rows that have the highest slot first, turned round, and then the lines ls
unfoldable pub onto : List Row → List Line → List Line
onto [] ls = ls
onto (r ∷ rs) ls = onto rs (row r ∷ ls)

-- all lines of a listing
unfoldable pub whole_lines : Top → List Row → List Line
whole_lines p rs = top p ∷ onto rs (last (length rs) ∷ [])

unfoldable pub lines_of : Head → List ℕ → List Line
lines_of h t = whole_lines (top_of h) (rows_in h.board t (layout_of h.board).size)

unfoldable pub table_text : Head → List ℕ → List ℕ
table_text h t = joined h.board (lines_of h t)

-- rows that have the highest slot first, as text in slot order
abbrev pub rows_text : Board → List Row → List ℕ
rows_text b rs = joined b (onto rs [])

-- room for the longest text: 3,840 lines of at most 59 bytes, a head line of at most 67 and a last line of at most 10
abbrev pub room : ℕ
room = 3840 * 59 + 67 + 10
