-- The trailer (document 01, "The table and its trailer"): byte 0 width, 1 height, 2 depth, 3 the profile (document 02, order 2); 4 to 7 taken, 8 to
-- 11 delivered, 12 to 15 the distance back to the table's first byte.
-- Assumes nothing.
use Rattle.std.specs.Prelude.{ℕ, ◌*◌, ◌-◌, ◌≤◌, ◌≡◌, List, ◌∷◌, ◌++◌, Bool, cond, ◌&&◌, leb, eqb, length, get_or, drop, replicate, Option, Some, None}
use Rattle.slots.specs.Bytes.{le32, bytes32, put}
use Rattle.board.specs.declared.Board.{Board}
use Rattle.board.specs.Board.{board_ok, GoodBoard}
use Rattle.board.specs.Layout.{layout_of, table_size}
use Rattle.trailer.specs.declared.Head.{Head}
use Rattle.trailer.specs.declared.Count.{Count}
use Rattle.trailer.specs.declared.Count.TheVariants.{Taken, Delivered}

abbrev pub board_of : List ℕ → Board
board_of z = record { width = get_or z 0 0; height = get_or z 1 0; depth = get_or z 2 0; profile = get_or z 3 0 }

abbrev pub head_of : List ℕ → Head
head_of z = record { board = board_of z; taken = le32 z 4; delivered = le32 z 8; size = le32 z 12 }

-- the ranges hold, delivered is at most taken, and the distance equals 16 × S + 16 and is at most the slice's length, n
unfoldable pub head_ok : Head → ℕ → Bool
head_ok h n =
    board_ok h.board
    && (leb h.delivered h.taken
    && (eqb h.size (table_size h.board)
    && leb h.size n))

abbrev pub trailer_in : List ℕ → ℕ → Option Head
trailer_in z n = cond (head_ok (head_of z) n) (Some (head_of z)) None

-- the slice has at least 16 bytes, and the last 16 are good
unfoldable pub trailer_of : List ℕ → Option Head
trailer_of s = cond (leb 16 (length s)) (trailer_in (drop (length s - 16) s) (length s)) None

-- the bytes that are the trailer
abbrev pub last16 : List ℕ → List ℕ
last16 s = drop (length s - 16) s

-- what a good trailer means: document 01's sentence, as facts
pub record GoodTrailer (s : List ℕ) (h : Head) : Type 0 where
  pub long : 16 ≤ length s
  pub read : h ≡ head_of (last16 s)
  pub ranges : GoodBoard h.board
  pub counts : h.delivered ≤ h.taken
  pub size_is : h.size ≡ table_size h.board
  pub size_in : h.size ≤ length s

-- the table with another count of packets taken in, or delivered
unfoldable pub with_taken : List ℕ → ℕ → List ℕ
with_taken t n = put t (length t - 12) (bytes32 n)

unfoldable pub with_delivered : List ℕ → ℕ → List ℕ
with_delivered t n = put t (length t - 8) (bytes32 n)

abbrev pub with_count : Count → List ℕ → ℕ → List ℕ
with_count Taken t n = with_taken t n
with_count Delivered t n = with_delivered t n

unfoldable pub trailer_bytes : Board → ℕ → ℕ → List ℕ
trailer_bytes b taken delivered = b.width ∷ b.height ∷ b.depth ∷ b.profile ∷ (bytes32 taken ++ (bytes32 delivered ++ bytes32 (table_size b)))

-- a fresh table: zeros and the fresh trailer
unfoldable pub fresh : Board → List ℕ
fresh b = replicate (16 * (layout_of b).size) 0 ++ trailer_bytes b 0 0
