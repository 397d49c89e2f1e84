-- What an accepted taking in leaves of a table, said once: its bytes, its trailer, its length, its slots, and the packets seen in their places.
-- Assumes nothing.
use Rattle.std.specs.Prelude.{Some}
use Prim.Native.Nat.{ℕ, suc, ◌+◌, ◌-◌, ◌*◌, ◌<◌, ◌≤◌, ◌^◌}
use mathlib.Core.Path.{◌≡◌, refl, sym, ap, ◌∙◌}
use mathlib.Core.Logic.{◌≢◌}
use mathlib.Core.Bool.{true}
use mathlib.Core.List.{List}
use native.Mathlib.Omega.{arith}
use lib.ListN.{length}
use borrow.Author.Tests.{eq-eqb}
use Rattle.network.specs.declared.Kind.TheVariants.{Waiting}
use Rattle.network.specs.Net.{at}
use Rattle.network.specs.Packet.{Packet, Item, GoodItem}
use Rattle.network.specs.View.{held, item_at}
use Rattle.network.specs.Table.{Entered}
use Rattle.slots.specs.Slots.{slot_at, with_slot, zeros}
use Rattle.slots.proofs.SlotLaws.{length-with_slot, slot_at_same, slot_at_other}
use Rattle.board.specs.declared.Board.{Board}
use Rattle.board.specs.Board.{net_of}
use Rattle.board.specs.Layout.{layout_of, Sized}
use Rattle.board.proofs.BoardLaws.{net_laws, one_waiting, slot_fits}
use Rattle.trailer.specs.declared.Head.{Head}
use Rattle.trailer.specs.Trailer.{trailer_of, with_taken}
use Rattle.trailer.proofs.TrailerLaws.{trailer_good, table_sized, trailer-with_slot}
use Rattle.trailer.proofs.CountLaws.{taking, trailer-with_taken, length-with_taken, slot_at-with_taken}
use Rattle.table.specs.Packets.{packet_of, slot_of, view_of}
use Rattle.table.specs.Queues.{empties_at}
use Rattle.table.specs.Calls.{outcome}
use Rattle.table.proofs.PacketLaws.{mark_not_zero, slot_held, slot_empty}
use Rattle.table.proofs.QueueLaws.{room_lowest, room_there, empties_room, empties_more}
use Rattle.judging.specs.Takings.{waiting_room, waiting_empties}
use Rattle.judging.proofs.WelcomeLaws.{Welcome, take_due, due_welcome, berth, berth_room, berth_within}
use Rattle.router.specs.TakeIn.{new_record, took_in, taken_in}
use Rattle.router.proofs.TakeLaws.{taken_done, new_packet_lem, length-new_record}

-- a packet as it is taken in: it waits at its source, with no hop made
abbrev pub new_packet : ℕ → ℕ → ℕ → List ℕ → Packet
new_packet source destination serial payload =
    record { mark = 1; source = source; destination = destination; hops = 0; serial = serial; payload = payload }

pub new_good : (b : Board) (source destination serial delivered : ℕ) (payload : List ℕ) → (net_of b).valid source ≡ true → (net_of b).valid destination ≡ true
    → delivered ≤ serial
    → GoodItem (net_of b) (suc serial) delivered (record { place = at source Waiting; packet = new_packet source destination serial payload })
new_good b source destination serial delivered payload from to due = record {
  here = from;
  marked = refl;
  from = from;
  to = to;
  numbered = omega arith;
  due = omega arith;
  made = sym ((net_laws b).self source);
  left = omega arith;
  fits = eq-eqb source source refl;
}

-- the table with the packet of those bytes in a slot, and one more counted
abbrev pub with_packet : Head → List ℕ → ℕ → List ℕ → List ℕ
with_packet h t slot v = with_taken (with_slot t slot v) (h.taken + 1)

pub record Takes (h : Head) (t : List ℕ) (source destination : ℕ) (payload : List ℕ) : Type 0 where
  pub welcome : Welcome h t source destination
  pub to : ℕ
  pub room : waiting_room h t source ≡ Some to
  pub inside : to < (layout_of h.board).size
  pub there : (layout_of h.board).place_of to ≡ at source Waiting
  -- the answer tells how many slots of that queue are empty now
  pub is : let u = with_packet h t to (new_record source destination h.taken payload) in
      taken_in h t source destination payload
      ≡ outcome record { number = 0; slot = to; serial = h.taken; left = empties_at h.board u (at source Waiting) } u
  pub none_left : empties_at h.board (with_packet h t to (new_record source destination h.taken payload)) (at source Waiting) ≡ 0
  pub head : trailer_of (with_packet h t to (new_record source destination h.taken payload)) ≡ Some (taking h (h.taken + 1))
  pub full : length (with_packet h t to (new_record source destination h.taken payload)) ≡ h.size
  pub come : slot_at (with_packet h t to (new_record source destination h.taken payload)) to ≡ new_record source destination h.taken payload
  pub rest : (i : ℕ) → i < (layout_of h.board).size → i ≢ to
      → slot_at (with_packet h t to (new_record source destination h.taken payload)) i ≡ slot_at t i
  pub seen : Entered (layout_of h.board) (view_of h t) (view_of (taking h (h.taken + 1)) (with_packet h t to (new_record source destination h.taken payload))) to
      (new_packet source destination h.taken payload)

module _ (h : Head) (t : List ℕ) (e : trailer_of t ≡ Some h) (full : length t ≡ h.size) (small : h.taken < 2 ^ 32)
    (source destination : ℕ) (payload : List ℕ) (l : length payload ≡ 8) (z : take_due h t source destination ≡ 0) where
  abbrev v : List ℕ
  v = new_record source destination h.taken payload

  sized : Sized h.board t
  sized = table_sized t e full

  w : Welcome h t source destination
  w = due_welcome h t source destination z

  abbrev j : ℕ
  j = berth h t source destination w

  room : waiting_room h t source ≡ Some j
  room = berth_room h t source destination w

  inside : j < (layout_of h.board).size
  inside = berth_within h t source destination w sized.board

  fits : 16 * j + 16 ≤ length t
  fits = slot_fits sized j inside

  long : length v ≡ 16
  long = length-new_record source destination h.taken payload l

  length_with : length (with_slot t j v) ≡ length t
  length_with = length-with_slot t j fits v long

  sized_with : Sized h.board (with_slot t j v)
  sized_with = record { board = sized.board; full = length_with ∙ sized.full }

  still : (i : ℕ) → i < (layout_of h.board).size → slot_at (with_packet h t j v) i ≡ slot_at (with_slot t j v) i
  still i n = slot_at-with_taken sized_with (h.taken + 1) i n

  come : slot_at (with_packet h t j v) j ≡ v
  come = still j inside ∙ slot_at_same t j fits v long

  rest : (i : ℕ) → i < (layout_of h.board).size → i ≢ j → slot_at (with_packet h t j v) i ≡ slot_at t i
  rest i n k = still i n ∙ slot_at_other t j fits v long i k

  packet : packet_of v ≡ new_packet source destination h.taken payload
  packet = new_packet_lem source destination h.taken payload small l

  -- one slot of the waiting queue is empty no more
  one_used : waiting_empties h t source ≡ suc (empties_at h.board (with_packet h t j v) (at source Waiting))
  one_used =
      empties_more h.board sized.board (at source Waiting) w.source_on (with_packet h t j v) t j inside
      (room_there h.board t (at source Waiting) j room sized.board w.source_on)
      (ap zeros come ∙ mark_not_zero v (ap (λ (p : Packet). p.mark) packet)) (room_lowest h.board t (at source Waiting) j room).has
      (λ i l p u. rest i l u)

  left_is : waiting_empties h t source - 1 ≡ empties_at h.board (with_packet h t j v) (at source Waiting)
  left_is = omega (arith, one_used)

  pub takes : Takes h t source destination payload
  unfolding took_in
  takes =
      let counts = (trailer_good t e).counts in
      let marked = ap (λ (p : Packet). p.mark) packet in
      record {
        welcome = w;
        to = j;
        room = room;
        inside = inside;
        there = room_there h.board t (at source Waiting) j room sized.board w.source_on;
        is = taken_done h t source destination payload z ∙ (λ i. outcome record { number = 0; slot = j; serial = h.taken; left = left_is i } (with_packet h t j v));
        none_left = omega (arith, one_used, empties_room h.board t (at source Waiting), one_waiting h.board);
        head = trailer-with_taken (with_slot t j v) (h.taken + 1) (trailer-with_slot t j v e full inside long) (omega arith) (omega (arith, w.more));
        full = length-with_taken (with_slot t j v) (h.taken + 1) (omega (arith, length_with, fits)) ∙ length_with ∙ full;
        come = come;
        rest = rest;
        seen = record {
          inside = inside;
          free = slot_empty (slot_at t j) (room_lowest h.board t (at source Waiting) j room).has;
          come = ap slot_of come ∙ slot_held v (mark_not_zero v marked) ∙ ap held packet;
          rest = λ i n k. ap slot_of (rest i n k);
        };
      }

-- the packet in its place
pub taken_item : {h : Head} {t : List ℕ} {source destination : ℕ} {payload : List ℕ} (c : Takes h t source destination payload)
    → ◌≡◌ {A = Item} (item_at (layout_of h.board) c.to (new_packet source destination h.taken payload))
    (record { place = at source Waiting; packet = new_packet source destination h.taken payload })
taken_item {h} {t} {source} {destination} {payload} c = λ i. record { place = c.there i; packet = new_packet source destination h.taken payload }
