-- Lists of calls on one slice, each on what the one before left, and what their answers tell.
-- Assumes nothing.
use Rattle.std.specs.Prelude.{ℕ, zero, suc, ◌+◌, ◌≡◌, ◌≢◌, cond, ◌&&◌, List, [], ◌∷◌, ◌++◌, eqb, length}
use Rattle.network.specs.Net.{delivery}
use Rattle.board.specs.declared.Board.{Board}
use Rattle.calls.specs.Slices.{Bytes, place_in}
use Rattle.calls.specs.Router.{Router}

-- the calls that only read
pub data Look : Type 0 where
  reads : (slot : ℕ) → Look
  checks : Look
  finds : Look
  copies : (second : List ℕ) → Look

pub data Call : Type 0 where
  clears : (b : Board) → Call
  takes : (source destination : ℕ) (payload : List ℕ) → Call
  moves : (slot code : ℕ) → Call
  looks : (l : Look) → Call

-- what can be handed in: the payload is eight bytes
abbrev pub Handed : Call → Type 0
Handed (clears b) = Unit {0}
Handed (takes source destination payload) = Bytes payload × (length payload ≡ 8)
Handed (moves slot code) = Unit {0}
Handed (looks l) = Unit {0}

-- a packet handed out: the node of the slot that the call named, and the 16 bytes of the answer
pub record Given : Type 0 where
  pub node : ℕ
  pub packet : List ℕ

module _ (R : Router) (s : List ℕ) where
  -- the slice as a look, and as any call, leaves it
  abbrev pub looked_by : Look → List ℕ
  looked_by (reads slot) = (R.read_payload s slot).bytes
  looked_by checks = (R.full_check s).bytes
  looked_by finds = (R.find s).bytes
  looked_by (copies second) = (R.copy_outward s second).bytes.slice

  abbrev pub left_by : Call → List ℕ
  left_by (clears b) = (R.clear s b).bytes
  left_by (takes source destination payload) = (R.take_in s source destination payload).bytes
  left_by (moves slot code) = (R.make_move s slot code).bytes
  left_by (looks l) = looked_by l

  -- how many moves, and which deliveries, a call's answer tells of; a delivery is a move by its code answered 0
  abbrev pub moves_by : Call → ℕ
  moves_by (clears b) = 0
  moves_by (takes source destination payload) = 0
  moves_by (moves slot code) = cond (eqb (R.make_move s slot code).answer.number 0) 1 0
  moves_by (looks l) = 0

  abbrev pub given_by : Call → List Given
  given_by (clears b) = []
  given_by (takes source destination payload) = []
  given_by (moves slot code) =
      let a = (R.make_move s slot code).answer in
      cond (eqb code delivery && eqb a.number 0) (record { node = (place_in s slot).node; packet = a.packet } ∷ []) []
  given_by (looks l) = []

  -- no taking in and no clear is accepted
  abbrev pub Quiet : Call → Type 0
  Quiet (clears b) = (R.clear s b).answer ≢ 0
  Quiet (takes source destination payload) = (R.take_in s source destination payload).answer.number ≢ 0
  Quiet (moves slot code) = Unit {0}
  Quiet (looks l) = Unit {0}

-- what comes of the calls: the slice at the end, the packets handed out, and the number of accepted moves
pub record Course : Type 0 where
  pub last : List ℕ
  pub given : List Given
  pub accepted : ℕ

abbrev pub course : Router → List ℕ → List Call → Course
course R s [] = record { last = s; given = []; accepted = 0 }
course R s (c ∷ cs) =
    let r = course R (left_by R s c) cs in
    record { last = r.last; given = given_by R s c ++ r.given; accepted = moves_by R s c + r.accepted }

abbrev pub MovesAlone : Router → List ℕ → List Call → Type 0
MovesAlone R s [] = Unit {0}
MovesAlone R s (c ∷ cs) = Quiet R s c × MovesAlone R (left_by R s c) cs

-- find's move, made, and again, at most so many times
abbrev pub following : Router → ℕ → List ℕ → List Call
following R zero s = []
following R (suc n) s =
    let a = (R.find s).answer in
    let c = moves a.slot a.code in
    cond (eqb a.number 0) (c ∷ following R n (left_by R s c)) []
