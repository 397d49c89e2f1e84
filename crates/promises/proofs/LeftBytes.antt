-- What a call leaves of a list of bytes is a list of bytes, whatever the call and whether it is accepted.
-- Assumes nothing.
use Prim.Native.Nat.{ℕ, ◌+◌, ◌-◌, ◌*◌}
use mathlib.Core.Path.{◌≡◌, sym, ap, subst, ◌∙◌}
use mathlib.Core.List.{List, ◌++◌}
use native.Mathlib.Omega.{arith}
use native.Mathlib.Decide.{ℕ_discrete}
use lib.ListN.{length, take, replicate}
use Rattle.slots.specs.Bytes.{bytes32}
use Rattle.slots.specs.Slots.{with_slot}
use Rattle.slots.proofs.ByteLaws.{bytes-append, bytes_take, bytes_drop, bytes-zeros, bytes-number, bytes-put, bytes-with_slot}
use Rattle.board.specs.declared.Board.{Board}
use Rattle.board.specs.Board.{GoodBoard}
use Rattle.board.specs.Layout.{layout_of, table_size}
use Rattle.board.proofs.BoardLaws.{valid_byte}
use Rattle.trailer.specs.Trailer.{trailer_bytes, fresh, with_taken}
use Rattle.table.specs.Calls.{Outcome}
use Rattle.router.specs.Clear.{used, cleared_as, cleared_slice}
use Rattle.router.specs.TakeIn.{TakeAnswer, new_record, taken_slice}
use Rattle.router.proofs.Intake.{with_packet}
use Rattle.calls.specs.Slices.{Bytes, head_in, board_in, table_in, before_in}
use Rattle.calls.specs.Router.{ours}
use Rattle.calls.specs.Calls.{Call, clears, takes, moves, looks, Handed, left_by}
use Rattle.promises.proofs.Reading.{good_is}
use Rattle.promises.proofs.Lent.{whole}
use Rattle.promises.proofs.Unchanged.{clear_refused, take_refused}
use Rattle.promises.proofs.Clearing.{due_number, bytes_cleared, due_board}
use Rattle.promises.proofs.Checked.{taken_small}
use Rattle.promises.proofs.Course.{looked}
use Rattle.promises.proofs.Entering.{entered_trailer, taking_in, all}

-- ---- clear

bytes_fresh : (b : Board) → GoodBoard b → Bytes (fresh b)
unfolding fresh trailer_bytes
bytes_fresh b g =
    let counts : Bytes (bytes32 0 ++ (bytes32 0 ++ bytes32 (table_size b))) =
    bytes-append (bytes32 0) _ (bytes-number 0) (bytes-append (bytes32 0) (bytes32 (table_size b)) (bytes-number 0) (bytes-number (table_size b))) in
    let end : Bytes (trailer_bytes b 0 0) = (
      omega (arith, g.width_high),
      (omega (arith, g.height_high), (omega (arith, g.depth_high), (omega arith, counts))),
    ) in
    bytes-append (replicate (16 * (layout_of b).size) 0) (trailer_bytes b 0 0) (bytes-zeros (16 * (layout_of b).size)) end

bytes_clear : (s : List ℕ) (b : Board) → Bytes s → (cleared_as s b).answer ≡ 0 → Bytes (cleared_as s b).bytes
bytes_clear s b c z =
    let due = sym (due_number s b) ∙ z in
    subst Bytes (sym (bytes_cleared s b due))
    (bytes-append (take (length s - table_size b) s) (fresh b) (bytes_take (length s - table_size b) s c) (bytes_fresh b (due_board s b due)))

clear_bytes : (s : List ℕ) → Bytes s → (b : Board) → Bytes (cleared_slice s b).bytes
unfolding cleared_slice
clear_bytes s c b = elim (ℕ_discrete (cleared_slice s b).answer 0) [
  | yes z ↦ bytes_clear s (used b) c z
  | no u ↦ subst Bytes (sym (ap (λ (o : Outcome ℕ (List ℕ)). o.bytes) (clear_refused s b u))) c
]

-- ---- take in

module _ (s : List ℕ) (b : Bytes s) (source destination : ℕ) (payload : List ℕ) (c : Bytes payload) (l : length payload ≡ 8) where
  entered_bytes : (taken_slice s source destination payload).answer.number ≡ 0 → Bytes (taken_slice s source destination payload).bytes
  unfolding before_in table_in with_taken new_record
  entered_bytes z =
      let g = entered_trailer s source destination payload z in
      let t = taking_in s g source destination payload (taken_small s b (good_is s g)) l z in
      let v : List ℕ = new_record source destination (head_in s).taken payload in
      let serial = bytes-append (bytes32 (head_in s).taken) payload (bytes-number (head_in s).taken) c in
      let from = valid_byte (board_in s) g.ranges source t.welcome.source_on in
      let to = valid_byte (board_in s) g.ranges destination t.welcome.destination_on in
      let new : Bytes v = (omega arith, (from, (to, (omega arith, serial)))) in
      let filled : List ℕ = with_slot (table_in s) t.to v in
      subst Bytes (sym (ap (λ (o : Outcome TakeAnswer (List ℕ)). o.bytes) (all s g source destination payload l t)))
      (bytes-append (before_in s) (with_packet (head_in s) (table_in s) t.to v) (bytes_take (length s - (head_in s).size) s b)
      (bytes-put filled (length filled - 12) (bytes32 ((head_in s).taken + 1))
      (bytes-with_slot (table_in s) t.to v (bytes_drop (length s - (head_in s).size) s b) new) (bytes-number ((head_in s).taken + 1))))

  take-bytes : Bytes (taken_slice s source destination payload).bytes
  take-bytes = elim (ℕ_discrete (taken_slice s source destination payload).answer.number 0) [
    | yes z ↦ entered_bytes z
    | no u ↦ subst Bytes (sym (ap (λ (o : Outcome TakeAnswer (List ℕ)). o.bytes) (take_refused s source destination payload u))) b
  ]

-- ---- any call

pub left_bytes : (s : List ℕ) → Bytes s → (c : Call) → Handed c → Bytes (left_by ours s c)
left_bytes s b (clears board) h = clear_bytes s b board
left_bytes s b (takes source destination payload) h = take-bytes s b source destination payload h.0 h.1
left_bytes s b (moves slot code) h = (whole s b slot code).0
left_bytes s b (looks l) h = subst Bytes (sym (looked s l)) b
