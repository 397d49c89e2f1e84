-- Clear (width, height, depth, profile): 8, then 9 if the slice is shorter than the table (document 01; document 02, order 2, the profile). Depth 0
-- means 5; the trailer always holds the depth used. The table's bytes become zeros and the fresh trailer; the bytes before it stay.
-- Assumes nothing.
use Rattle.std.specs.Prelude.{ℕ, ◌-◌, not, cond, List, [], ◌∷◌, ◌++◌, ltb, eqb, length, take}
use Rattle.board.specs.declared.Board.{Board}
use Rattle.board.specs.Board.{board_ok}
use Rattle.board.specs.Layout.{table_size}
use Rattle.trailer.specs.Trailer.{fresh}
use Rattle.table.specs.Refusals.{Row, row, sizes_not_accepted, wrong_length}
use Rattle.table.specs.Calls.{Outcome, outcome, answered}

-- the board asked for
abbrev pub asked : ℕ → ℕ → ℕ → ℕ → Board
asked width height depth profile = record { width = width; height = height; depth = depth; profile = profile }

abbrev pub depth_left_out : ℕ
depth_left_out = 5

abbrev pub depth_used : ℕ → ℕ
depth_used depth = cond (eqb depth 0) depth_left_out depth

-- the board made
abbrev pub used : Board → Board
used b = asked b.width b.height (depth_used b.depth) b.profile

abbrev pub clear_rows : List ℕ → Board → List Row
clear_rows s b =
    row sizes_not_accepted (not (board_ok b))
    ∷ row wrong_length (ltb (length s) (table_size b))
    ∷ []

-- for a board whose depth is not left out
unfoldable pub cleared_as : List ℕ → Board → Outcome ℕ (List ℕ)
cleared_as s b = answered (clear_rows s b) (λ number. number) s (outcome 0 (take (length s - table_size b) s ++ fresh b))

unfoldable pub cleared_slice : List ℕ → Board → Outcome ℕ (List ℕ)
cleared_slice s b = cleared_as s (used b)
