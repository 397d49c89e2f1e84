-- Document 01's cases marked P, and those of document 02's orders, as a table: what is asked, and what the answer must be. What can be asked of
-- the calls is asked of them, on bytes.
-- Assumes nothing.
use Rattle.std.specs.Prelude.{ℕ, zero, suc, cond, List, [], ◌∷◌, eqb, take, replicate}
use Rattle.network.specs.declared.Kind.{Kind}
use Rattle.network.specs.declared.Kind.TheVariants.{A, B}
use Rattle.network.specs.declared.Place.{Place}
use Rattle.network.specs.declared.Lead.{Lead}
use Rattle.network.specs.declared.Lead.TheVariants.{Hop, Turn, Out, NotOffered}
use Rattle.network.specs.Net.{Net, at, kind_number, delivery}
use Rattle.network.specs.Packet.{Item, offer}
use Rattle.mesh.specs.Grid.{node, x_of, y_of}
use Rattle.slots.specs.Slots.{slot_at}
use Rattle.board.specs.Board.{net_of}
use Rattle.board.specs.Layout.{number_of}
use Rattle.table.specs.Calls.{Outcome}
use Rattle.router.specs.Clear.{asked}
use Rattle.calls.specs.Slices.{head_in, board_in, slots_in, place_in}
use Rattle.calls.specs.Router.{ours}
use Rattle.calls.specs.Calls.{Call, clears as clearing, takes as taking, moves as moving, looks as looking, left_by}
use Rattle.promises.specs.Demand3.{sum_in}

-- ---- the rule

-- the grid of the cases of the rule, of a board of a profile
abbrev pub grid : ℕ → Net
grid profile = net_of (asked 3 3 1 profile)

-- a packet at (x, y) for (z, w), as taken in there
abbrev pub packet_at : Kind → ℕ → ℕ → ℕ → ℕ → Item
packet_at k x y z w = record {
  place = at (node x y) k;
  packet = record { mark = 1; source = node x y; destination = node z w; hops = 0; serial = 0; payload = [] };
}

-- those of a list of codes that the rule offers a packet
abbrev kept : ℕ → List ℕ → Lead → List ℕ
kept code l (Hop n) = code ∷ l
kept code l (Turn k) = code ∷ l
kept code l Out = code ∷ l
kept code l NotOffered = l

abbrev pub offered : ℕ → Item → List ℕ → List ℕ
offered profile x [] = []
offered profile x (code ∷ l) = kept code (offered profile x l) (offer (grid profile) x code)

-- ---- sizes and places

-- a clear of a slice of n zeros
abbrev made : ℕ → ℕ → ℕ → ℕ → ℕ → Outcome ℕ (List ℕ)
made width height depth profile n = ours.clear (replicate n 0) (asked width height depth profile)

-- its number and, where that is 0, what the trailer made then tells: the depth used, the profile, S and the table's bytes
abbrev told : Outcome ℕ (List ℕ) → List ℕ
told o =
    let u = o.bytes in
    cond (eqb o.answer 0) (0 ∷ (board_in u).depth ∷ (board_in u).profile ∷ slots_in u ∷ (head_in u).size ∷ []) (o.answer ∷ [])

-- a place: its node's number, x, y and kind
abbrev place_numbers : ℕ → Place → List ℕ
place_numbers width p = number_of width p.node ∷ x_of p.node ∷ y_of p.node ∷ kind_number p.kind ∷ []

-- at each of n places from k on, that place's own offset
abbrev offsets : ℕ → ℕ → List ℕ
offsets k zero = []
offsets k (suc n) = k ∷ offsets (suc k) n

-- ---- walks

abbrev payload : List ℕ
payload = 11 ∷ 12 ∷ 13 ∷ 14 ∷ 15 ∷ 16 ∷ 17 ∷ 18 ∷ []

-- a packet on its way, by the moves made, the slice and its slot; or handed out, by the moves, the node left and the 16 bytes; or refused
pub data Walk : Type 0 where
  walking : ℕ → List ℕ → ℕ → Walk
  arrived : ℕ → ℕ → List ℕ → Walk
  refused : Walk

-- one packet taken in on a fresh board of 3 by 3 and depth 1
abbrev start : ℕ → ℕ → Walk
start source destination =
    let o = ours.take_in (made 3 3 1 0 448).bytes source destination payload in
    cond (eqb o.answer.number 0) (walking 0 o.bytes o.answer.slot) refused

abbrev next : Walk → ℕ → Walk
next (walking moves s slot) code =
    let o = ours.make_move s slot code in
    cond (eqb o.answer.number 0)
    (cond (eqb code delivery) (arrived (suc moves) (place_in s slot).node o.answer.packet) (walking (suc moves) o.bytes o.answer.slot))
    refused
next (arrived moves n packet) code = refused
next refused code = refused

abbrev walk : Walk → List ℕ → Walk
walk w [] = w
walk w (code ∷ l) = walk (next w code) l

-- demand 3's sum of the table walked on
abbrev sum_of : Walk → List ℕ
sum_of (walking moves s slot) = sum_in s ∷ []
sum_of (arrived moves n packet) = []
sum_of refused = []

-- the moves, the node and the 16 bytes of a delivery
abbrev delivery_of : Walk → List ℕ
delivery_of (walking moves s slot) = []
delivery_of (arrived moves n packet) = moves ∷ n ∷ packet
delivery_of refused = []

-- ---- several packets

-- the number that a call answers; of those that only read none is asked here
abbrev number_by : List ℕ → Call → ℕ
number_by s (clearing b) = (ours.clear s b).answer
number_by s (taking source destination bytes) = (ours.take_in s source destination bytes).answer.number
number_by s (moving slot code) = (ours.make_move s slot code).answer.number
number_by s (looking l) = 0

-- of calls one after the other, each on what the one before left
abbrev numbers : List ℕ → List Call → List ℕ
numbers s [] = []
numbers s (c ∷ l) = number_by s c ∷ numbers (left_by ours s c) l

-- on a board of 2 by 2 and depth 1, from (1,0): a packet for (0,0), which enters slot 5, in B, then one for (0,1), which enters slot 4, in A
abbrev both_left : List Call → List Call
both_left l =
    taking (node 1 0) (node 0 0) payload ∷ moving 3 1 ∷ taking (node 1 0) (node 0 1) payload ∷ moving 3 1 ∷ l

-- ---- the questions

pub data Question : Type 0 where
  -- the codes that the rule offers on a board of a profile, of all that there are
  codes : ℕ → Item → Question
  -- the distance between two nodes
  apart : ℕ → ℕ → Question
  -- a clear with this width, height, depth and profile of a slice of so many bytes: its number, and the depth used, the profile, S and the table's
  -- bytes
  clears : ℕ → ℕ → ℕ → ℕ → ℕ → Question
  -- in a fresh 3 by 3 table of depth 1, a slot's place: its node's number, x, y and kind
  placed : ℕ → Question
  -- where a slot's first byte is, in a table of 448 bytes
  byte_of : ℕ → Question
  -- demand 3's sum, of a packet taken in from a source to a destination
  summed : ℕ → ℕ → Question
  -- the walk of such a packet by these codes: its moves, the node where it is delivered, and the packet's 16 bytes
  walked : ℕ → ℕ → List ℕ → Question
  -- on a fresh 2 by 2 table of depth 1 and a profile, the numbers that these calls answer, one after the other
  called : ℕ → List Call → Question

abbrev pub answer : Question → List ℕ
answer (codes profile x) = offered profile x (1 ∷ 2 ∷ 3 ∷ 4 ∷ 5 ∷ 6 ∷ 7 ∷ [])
answer (apart a b) = (grid 0).distance a b ∷ []
answer (clears width height depth profile n) = told (made width height depth profile n)
answer (placed slot) = place_numbers 3 (place_in (made 3 3 1 0 448).bytes slot)
answer (byte_of slot) = take 1 (slot_at (offsets 0 448) slot)
answer (summed source destination) = sum_of (start source destination)
answer (walked source destination l) = delivery_of (walk (start source destination) l)
answer (called profile l) = numbers (made 2 2 1 profile 208).bytes l

pub record Case : Type 0 where
  pub asked : Question
  pub right : List ℕ

abbrev case : Question → List ℕ → Case
case q a = record { asked = q; right = a }

-- a delivery at (2,0) of the packet from (0,2), after so many moves and four hops
abbrev after : ℕ → List ℕ
after moves = moves ∷ node 2 0 ∷ 1 ∷ node 0 2 ∷ node 2 0 ∷ 4 ∷ 0 ∷ 0 ∷ 0 ∷ 0 ∷ payload

-- document 01, "On both sides of the edge"
abbrev pub table : List Case
table =
    case (clears 3 3 1 0 448) (0 ∷ 1 ∷ 0 ∷ 27 ∷ 448 ∷ [])
    ∷ case (clears 3 3 1 0 447) (9 ∷ [])
    ∷ case (clears 16 16 7 0 61456) (0 ∷ 7 ∷ 0 ∷ 3840 ∷ 61456 ∷ [])
    ∷ case (clears 16 16 8 0 61456) (8 ∷ [])
    ∷ case (clears 1 1 0 0 192) (0 ∷ 5 ∷ 0 ∷ 11 ∷ 192 ∷ [])
    ∷ case (clears 1 1 0 0 191) (9 ∷ [])
    ∷ case (placed 20) (6 ∷ 0 ∷ 2 ∷ 2 ∷ [])
    ∷ case (byte_of 20) (320 ∷ [])
    ∷ case (codes 0 (packet_at A 0 2 2 0)) (2 ∷ 5 ∷ [])
    ∷ case (codes 0 (packet_at A 2 2 2 0)) (6 ∷ [])
    ∷ case (codes 0 (packet_at A 2 0 0 2)) (3 ∷ 4 ∷ [])
    ∷ case (codes 0 (packet_at A 1 1 1 1)) (6 ∷ 7 ∷ [])
    ∷ case (codes 0 (packet_at B 1 1 1 1)) (7 ∷ [])
    ∷ case (codes 0 (packet_at B 2 2 0 0)) (3 ∷ 5 ∷ [])
    ∷ case (apart (node 0 2) (node 2 0)) (4 ∷ [])
    ∷ case (summed (node 0 2) (node 2 0)) (7 ∷ [])
    ∷ case (walked (node 0 2) (node 2 0) (1 ∷ 2 ∷ 2 ∷ 6 ∷ 5 ∷ 5 ∷ 7 ∷ [])) (after 7)
    ∷ case (walked (node 0 2) (node 2 0) (1 ∷ 5 ∷ 2 ∷ 5 ∷ 2 ∷ 7 ∷ [])) (after 6)
    -- order 2
    ∷ case (clears 3 3 1 2 448) (0 ∷ 1 ∷ 2 ∷ 27 ∷ 448 ∷ [])
    ∷ case (clears 3 3 1 2 447) (9 ∷ [])
    ∷ case (clears 3 3 1 3 448) (8 ∷ [])
    ∷ case (clears 3 3 1 3 447) (8 ∷ [])
    ∷ case (codes 1 (packet_at A 2 0 0 2)) (4 ∷ [])
    ∷ case (codes 1 (packet_at A 0 2 2 0)) (2 ∷ [])
    ∷ case (codes 1 (packet_at A 1 1 1 1)) (6 ∷ 7 ∷ [])
    ∷ case (codes 2 (packet_at A 0 0 2 2)) (2 ∷ [])
    ∷ case (codes 2 (packet_at A 2 0 2 2)) (4 ∷ [])
    ∷ case (codes 2 (packet_at A 2 2 2 0)) (6 ∷ [])
    ∷ case (codes 2 (packet_at A 1 1 1 1)) (7 ∷ [])
    ∷ case (codes 2 (packet_at B 2 2 0 0)) (3 ∷ [])
    ∷ case (codes 2 (packet_at B 0 2 0 0)) (5 ∷ [])
    -- order 3: a packet for (0,0) enters slot 2, so that slot 5's has no room to the left, until it is delivered; slot 4's gives way until slot 5's
    -- has gone
    ∷ case
    (called 0
    (taking (node 0 0) (node 0 0) payload ∷ moving 0 1
    ∷ both_left (moving 5 3 ∷ moving 4 3 ∷ moving 2 7 ∷ moving 4 3 ∷ moving 5 3 ∷ moving 4 3 ∷ [])))
    (0 ∷ 0 ∷ 0 ∷ 0 ∷ 0 ∷ 0 ∷ 6 ∷ 12 ∷ 0 ∷ 12 ∷ 0 ∷ 0 ∷ [])
    ∷ case (called 1 (both_left (moving 4 3 ∷ []))) (0 ∷ 0 ∷ 0 ∷ 0 ∷ 5 ∷ [])
    ∷ []
