-- The lines of a listing (document 01, "The listing program"): what each says, and its text. Decimal, one blank between words, each line ended by
-- byte 10. Nodes are written as the board answers them.
-- Assumes nothing.
use Rattle.std.specs.Prelude.{ℕ, cond, List, [], ◌∷◌, ◌++◌, eqb}
use Rattle.network.specs.declared.Kind.{Kind}
use Rattle.network.specs.declared.Kind.TheVariants.{Waiting, A, B}
use Rattle.network.specs.declared.Place.{Place}
use Rattle.board.specs.declared.Board.{Board}
use Rattle.board.specs.declared.Coordinates.{Coordinates}
use Rattle.board.specs.Board.{coordinates_of}
use Rattle.text.specs.Dec.{dec}
use Rattle.text.specs.Text.{text}

-- what the head line says
pub record Top : Type 0 where
  pub board : Board
  pub taken : ℕ
  pub delivered : ℕ

-- what a held slot's line says; no payload
pub record Row : Type 0 where
  pub slot : ℕ
  pub place : Place
  pub source : ℕ
  pub destination : ℕ
  pub hops : ℕ
  pub serial : ℕ

-- and the last line, how many slots are held
pub data Line : Type 0 where
  top : Top → Line
  row : Row → Line
  last : ℕ → Line

-- `grid W H depth D`
unfoldable pub grid_text : Board → List ℕ
grid_text b = (text "grid " ++ dec b.width) ++ (text " " ++ dec b.height) ++ (text " depth " ++ dec b.depth)

-- ` taken T delivered D`
unfoldable pub counts_text : ℕ → ℕ → List ℕ
counts_text taken delivered = (text " taken " ++ dec taken) ++ (text " delivered " ++ dec delivered)

-- the profile of which a head line says nothing (document 02, order 2)
abbrev pub unsaid : ℕ
unsaid = 0

-- ` profile P` for another
unfoldable pub profile_text : ℕ → List ℕ
profile_text profile = cond (eqb profile unsaid) [] (text " profile " ++ dec profile)

abbrev pub letter : Kind → List ℕ
letter Waiting = text "W"
letter A = text "A"
letter B = text "B"

-- `X,Y`
abbrev pub coordinates_text : Coordinates → List ℕ
coordinates_text c = dec c.x ++ text "," ++ dec c.y

unfoldable pub node_text : Board → ℕ → List ℕ
node_text b n = coordinates_text (coordinates_of b n)

-- `SLOT K X,Y`
unfoldable pub place_text : Board → ℕ → Place → List ℕ
place_text b slot here = dec slot ++ text " " ++ letter here.kind ++ (text " " ++ node_text b here.node)

-- ` from X,Y to X,Y hops H serial N`
unfoldable pub packet_text : Board → ℕ → ℕ → ℕ → ℕ → List ℕ
packet_text b source destination hops serial =
    (text " from " ++ node_text b source)
    ++ (text " to " ++ node_text b destination)
    ++ (text " hops " ++ dec hops)
    ++ (text " serial " ++ dec serial)

unfoldable pub head_line : Top → List ℕ
head_line p = grid_text p.board ++ counts_text p.taken p.delivered ++ profile_text p.board.profile ++ text "\n"

unfoldable pub slot_line : Board → Row → List ℕ
slot_line b r = place_text b r.slot r.place ++ packet_text b r.source r.destination r.hops r.serial ++ text "\n"

-- `held N`
unfoldable pub last_line : ℕ → List ℕ
last_line n = text "held " ++ dec n ++ text "\n"

-- in the listing of a board's table
unfoldable pub line_text : Board → Line → List ℕ
line_text b (top p) = head_line p
line_text b (row r) = slot_line b r
line_text b (last n) = last_line n

-- lines one after another
unfoldable pub joined : Board → List Line → List ℕ
joined b [] = []
joined b (l ∷ ls) = line_text b l ++ joined b ls
