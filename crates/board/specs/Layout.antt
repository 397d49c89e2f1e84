-- Where the slots of a board's table are. Node (x, y) has number y × width + x; slot number = node × (1 + 2c) + place in node
-- (document 01, "The table and its trailer").
-- Assumes nothing.
use Rattle.std.specs.Prelude.{ℕ, ◌+◌, ◌*◌, ◌/◌, ◌%◌, ◌≡◌, List, cond, leb, eqb, length}
use Rattle.network.specs.declared.Kind.{Kind}
use Rattle.network.specs.declared.Kind.TheVariants.{Waiting, A, B}
use Rattle.network.specs.Net.{at}
use Rattle.network.specs.View.{Layout}
use Rattle.mesh.specs.Grid.{x_of, y_of}
use Rattle.board.specs.declared.Board.{Board}
use Rattle.board.specs.Board.{GoodBoard}

-- a node's number, and the node of a number
abbrev pub number_of : ℕ → ℕ → ℕ
number_of width n = y_of n * width + x_of n

abbrev pub node_of : ℕ → ℕ → ℕ
node_of width m = m % width + 16 * (m / width)

-- the slots of a node, its waiting slot first, then A, then B
abbrev pub per_node : ℕ → ℕ
per_node depth = 1 + 2 * depth

abbrev pub offset : ℕ → Kind → ℕ
offset depth Waiting = 0
offset depth A = 1
offset depth B = 1 + depth

abbrev pub kind_of : ℕ → ℕ → Kind
kind_of depth r = cond (eqb r 0) Waiting (cond (leb r depth) A B)

abbrev pub room_of : ℕ → Kind → ℕ
room_of depth Waiting = 1
room_of depth A = depth
room_of depth B = depth

unfoldable pub layout_of : Board → Layout
layout_of b = record {
  size = b.width * b.height * per_node b.depth;
  place_of = λ s. at (node_of b.width (s / per_node b.depth)) (kind_of b.depth (s % per_node b.depth));
  first = λ p. number_of b.width p.node * per_node b.depth + offset b.depth p.kind;
  room = room_of b.depth;
}

-- the table's bytes
abbrev pub table_size : Board → ℕ
table_size b = 16 * (layout_of b).size + 16

-- t is as long as a table of that board
pub record Sized (b : Board) (t : List ℕ) : Type 0 where
  pub board : GoodBoard b
  pub full : length t ≡ table_size b
