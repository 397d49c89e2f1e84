-- How long the text of a table is: the head line at most 67 bytes, a slot's line 59, the last line 10.
-- Assumes nothing.
use Prim.Native.Nat.{ℕ, zero, suc, ◌+◌, ◌*◌, ◌^◌, ◌≤◌, ◌<◌}
use mathlib.Core.Path.{◌≡◌, refl, ap}
use mathlib.Core.Bool.{Bool, true, false, not, cond}
use mathlib.Core.List.{List, [], ◌++◌}
use native.Mathlib.Omega.{arith}
use lib.Dec.{eqb}
use lib.ListN.{length, get_or, length-append}
use Rattle.network.specs.declared.Kind.{Kind}
use Rattle.network.specs.declared.Kind.TheVariants.{Waiting, A, B}
use Rattle.slots.specs.Slots.{slot_at, zeros}
use Rattle.board.specs.declared.Board.{Board}
use Rattle.board.specs.Board.{GoodBoard, coordinates_of}
use Rattle.board.specs.Layout.{layout_of}
use Rattle.board.proofs.BoardLaws.{slots_most, valid_byte, place_byte, coordinates_small}
use Rattle.trailer.specs.declared.Head.{Head}
use Rattle.table.specs.Packets.{item_in, good_at}
use Rattle.table.specs.Held.{held_at, held_below}
use Rattle.table.proofs.PacketLaws.{good_here, good_hops}
use Rattle.text.specs.Dec.{dec}
use Rattle.text.specs.Text.{text}
use Rattle.text.proofs.DecLaws.{length-dec, length_u32}
use Rattle.lines.specs.Line.{grid_text, counts_text, unsaid, profile_text, head_line, letter, node_text, place_text, packet_text, slot_line, last_line}
use Rattle.lines.specs.Lines.{top_of, row_in, row_at, rows_in, rows_text, table_text, room}
use Rattle.lines.proofs.RowLaws.{row_empty, row_held, no_rows, rows_longer, table_is}

pub node_short : (b : Board) (n : ℕ) → n < 256 → length (node_text b n) ≤ 5
unfolding node_text
node_short b n l =
    let c = coordinates_small b n l in
    simp length-append (omega (arith, length-dec 1 (coordinates_of b n).x (omega arith), length-dec 1 (coordinates_of b n).y (omega arith)))

pub letter_one : (k : Kind) → length (letter k) ≡ 1
letter_one Waiting = refl
letter_one A = refl
letter_one B = refl

profile_short : (profile : ℕ) → profile ≤ 2 → length (profile_text profile) ≤ 10
unfolding profile_text
profile_short profile l = go (eqb profile unsaid)
  where
    go : (b : Bool) → length (cond b [] (text " profile " ++ dec profile)) ≤ 10
    go true = omega arith
    go false = simp length-append (omega (arith, length-dec 0 profile (omega arith)))

head_short : (h : Head) → GoodBoard h.board → h.taken < 2 ^ 32 → h.delivered ≤ h.taken → length (head_line (top_of h)) ≤ 67
unfolding head_line grid_text counts_text
head_short h g l d =
    simp length-append
    (omega (
      arith,
      length-dec 1 h.board.width (omega (arith, g.width_high)),
      length-dec 1 h.board.height (omega (arith, g.height_high)),
      length-dec 0 h.board.depth (omega (arith, g.depth_high)),
      length_u32 h.taken l,
      length_u32 h.delivered (omega arith),
      profile_short h.board.profile g.profile_high,
    ))

last_short : (n : ℕ) → n ≤ 3840 → length (last_line n) ≤ 10
unfolding last_line
last_short n l = simp length-append (omega (arith, length-dec 3 n (omega arith)))

held_most : (t : List ℕ) (n : ℕ) → held_below t n ≤ n
held_most t zero = omega arith
held_most t (suc n) = go (held_most t n) (held_at t n)
  where
    go : held_below t n ≤ n → (b : Bool) → cond b 1 0 + held_below t n ≤ suc n
    go l true = omega arith
    go l false = omega arith

module _ (h : Head) (g : GoodBoard h.board) (t : List ℕ) (few : h.taken < 2 ^ 32) where
  abbrev size : ℕ
  size = (layout_of h.board).size

  -- a good packet's line
  line_short : (k : ℕ) → k < size → good_at h t k ≡ true → length (slot_line h.board (row_in h.board t k)) ≤ 59
  unfolding slot_line place_text packet_text
  line_short k l e =
      let b = h.board in
      let p = good_here h t k e g l in
      let s = slot_at t k in
      simp length-append
      (omega (
        arith,
        length-dec 3 k (omega (arith, slots_most b g)),
        letter_one ((layout_of b).place_of k).kind,
        node_short b ((layout_of b).place_of k).node (place_byte b g k l),
        node_short b (get_or s 1 0) (valid_byte b g _ p.from),
        node_short b (get_or s 2 0) (valid_byte b g _ p.to),
        length-dec 1 (get_or s 3 0) (omega (arith, good_hops h t k e g l)),
        length_u32 (item_in b t k).packet.serial (omega (arith, p.numbered)),
      ))

  -- of a table whose held packets are all good
  module _ (sound : (k : ℕ) → k < size → held_at t k ≡ true → good_at h t k ≡ true) where
    row_short : (k : ℕ) → k < size → length (rows_text h.board (row_at h.board t k)) ≤ 59
    row_short k l = go (zeros (slot_at t k)) refl
      where
        go : (b : Bool) → zeros (slot_at t k) ≡ b → length (rows_text h.board (row_at h.board t k)) ≤ 59
        go true e = rw (row_empty h.board t k e) (omega arith)
        go false e = rw (row_held h.board t k e) (line_short k l (sound k l (ap not e)))

    rows_short : (n : ℕ) → n ≤ size → length (rows_text h.board (rows_in h.board t n)) ≤ 59 * n
    rows_short zero l = rw (no_rows h.board t) (omega arith)
    rows_short (suc n) l = omega (arith, rows_longer h.board t n, rows_short n (omega arith), row_short n l)

    pub table_short : h.delivered ≤ h.taken → length (table_text h t) ≤ room
    table_short d =
        let most = slots_most h.board g in
        rw (table_is h t)
        (simp length-append
        (omega (
          arith,
          most,
          head_short h g few d,
          rows_short size (omega arith),
          last_short (held_below t size) (omega (arith, held_most t size, most)),
        )))
