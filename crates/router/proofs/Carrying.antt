-- What a packet carried to another queue leaves of a table, said once: the answer and the bytes, the trailer, the length, and the packets seen in their
-- places.
-- Assumes nothing.
use Rattle.std.specs.Prelude.{Some}
use Prim.Native.Nat.{ℕ, ◌+◌, ◌-◌, ◌*◌, ◌<◌, ◌≤◌}
use mathlib.Core.Path.{◌≡◌, refl, sym, ap, subst, ◌∙◌}
use mathlib.Core.Logic.{◌≢◌}
use mathlib.Core.Bool.{true}
use mathlib.Core.List.{List}
use native.Mathlib.Omega.{arith}
use native.Mathlib.Nat.{add-zero}
use native.Mathlib.Numerals.{add-one}
use lib.ListN.{length, get_or}
use lib.Seq.{get_or-set_other}
use Rattle.network.specs.declared.Place.{Place}
use Rattle.network.specs.declared.Lead.TheVariants.{Hop, Turn}
use Rattle.network.specs.declared.Kind.{Kind}
use Rattle.network.specs.Net.{at}
use Rattle.network.specs.Packet.{with_hops}
use Rattle.network.specs.View.{held}
use Rattle.network.specs.Machine.{Led, by_hop, by_turn}
use Rattle.network.specs.Search.{number_at}
use Rattle.network.specs.Table.{Carried}
use Rattle.network.proofs.Course.{led_elsewhere}
use Rattle.network.proofs.Tests.{clash}
use Rattle.slots.specs.Slots.{slot_at, empty_slot}
use Rattle.slots.proofs.SlotLaws.{length-slot_at}
use Rattle.board.specs.Board.{net_of}
use Rattle.board.specs.Layout.{layout_of}
use Rattle.board.proofs.BoardLaws.{net_laws, slot_fits}
use Rattle.trailer.specs.declared.Head.{Head}
use Rattle.trailer.specs.Trailer.{trailer_of}
use Rattle.table.specs.Packets.{packet_of, slot_of, view_of, item_in}
use Rattle.table.specs.Queues.{empty_at, room_at, empties_at}
use Rattle.table.specs.Carriage.{hop, vacated, carried}
use Rattle.table.specs.Calls.{outcome}
use Rattle.table.proofs.QueueLaws.{room_lowest, room_within, room_there}
use Rattle.table.proofs.PacketLaws.{mark_not_zero, slot_held, slot_empty, packet_hop}
use Rattle.table.proofs.CarriageLaws.{vacated_other, length-carried, carried_to, carried_else, trailer-carried}
use Rattle.table.proofs.RoomLaws.{carried_room}
use Rattle.judging.specs.Moves.{lead_of, move_due}
use Rattle.judging.proofs.NamedLaws.{named_good, targets}
use Rattle.judging.proofs.GrantedLaws.{hop_room, turn_room}
use Rattle.router.specs.Move.{gone, led_on, moved_in}
use Rattle.router.proofs.MoveLaws.{moved_granted}
use Rattle.router.proofs.Leaving.{Leaving, leaving, vacates}

-- the packet of slot k, with more hops, has gone to the lowest empty slot of the target queue
pub record Carries (h : Head) (t : List ℕ) (k code : ℕ) (target : Place) (more : ℕ) : Type 0 where
  pub to : ℕ
  pub room : room_at h.board t target ≡ Some to
  pub inside : to < (layout_of h.board).size
  pub apart : k ≢ to
  -- the answer tells how many slots of that queue are empty now
  pub is : let u = carried h.board t k to more in
      moved_in h t k code ≡ outcome record { number = 0; slot = to; packet = empty_slot; left = empties_at h.board u target } u
  pub head : trailer_of (carried h.board t k to more) ≡ Some h
  pub full : length (carried h.board t k to more) ≡ h.size
  pub seen : Carried (net_of h.board) (layout_of h.board) (view_of h t) (view_of h (carried h.board t k to more))

module _ (h : Head) (t : List ℕ) (e : trailer_of t ≡ Some h) (full : length t ≡ h.size) (k code : ℕ) (z : move_due h t k code ≡ 0) where
  it : Leaving h t k code
  it = leaving h t e full k code z

  -- ---- to another queue, with a hop more or none

  module _ (target : Place) (more : ℕ) (on : (net_of h.board).valid target.node ≡ true) (room : room_at h.board t target ≡ Some (number_at (room_at h.board t target)))
      (done : led_on h t k ((layout_of h.board).place_of k) (lead_of h.board t k code) ≡ gone h t k target more)
      (led : Led (net_of h.board) (item_in h.board t k) code
      (record { place = target; packet = with_hops (packet_of (slot_at t k)) (get_or (slot_at t k) 3 0 + more) })) where
    abbrev v : List ℕ
    v = slot_at t k

    abbrev j : ℕ
    j = number_at (room_at h.board t target)

    to_inside : j < (layout_of h.board).size
    to_inside = room_within h.board t target j room it.sized.board on

    free : empty_at t j ≡ true
    free = (room_lowest h.board t target j room).has

    apart : k ≢ j
    apart q = let f = it.granted.named.held in let u = free in clash (cc q)

    to_fits : 16 * j + 16 ≤ length t
    to_fits = slot_fits it.sized j to_inside

    marked : get_or (hop v more) 0 0 ≡ 1
    marked = get_or-set_other v 3 0 (get_or v 3 0 + more) 0 (λ q. omega arith) ∙ (named_good it.granted.named it.sized.board).marked

    shown : slot_of (hop v more) ≡ held (with_hops (packet_of v) (get_or v 3 0 + more))
    shown =
        slot_held (hop v more) (mark_not_zero (hop v more) marked) ∙ ap held (packet_hop v more (omega (arith, length-slot_at t k it.fits)))

    elsewhere : (layout_of h.board).place_of k ≢ target
    elsewhere = led_elsewhere (net_of h.board) (net_laws h.board) h.taken h.delivered (item_in h.board t k) (named_good it.granted.named it.sized.board) code _ led

    -- one slot of the target queue is empty no more
    left_is : empties_at h.board t target - 1 ≡ empties_at h.board (carried h.board t k j more) target
    left_is =
        omega (
          arith,
          carried_room h.board t it.sized k it.inside j more to_inside target on (room_there h.board t target j room it.sized.board on) elsewhere free
              (mark_not_zero (hop v more) marked),
        )

    seen-carried : Carried (net_of h.board) (layout_of h.board) (view_of h t) (view_of h (carried h.board t k j more))
    seen-carried = record {
      i = k;
      n = 0;
      j = j;
      p = packet_of v;
      q = with_hops (packet_of v) (get_or v 3 0 + more);
      code = code;
      between = view_of h (vacated h.board t k);
      was = slot_held v it.granted.named.held;
      vacated = vacates it (view_of h (vacated h.board t k)) (λ i l. refl);
      entered = record {
        inside = to_inside;
        free = ap slot_of (vacated_other h.board t k it.fits j (λ q. apart (sym q))) ∙ slot_empty (slot_at t j) free;
        come = ap slot_of (carried_to h.board t k j more it.fits to_fits) ∙ shown;
        rest = λ i l u. ap slot_of (carried_else h.board t k j more it.fits to_fits i u);
      };
      led = subst (λ (p : Place). Led (net_of h.board) (item_in h.board t k) code (record { place = p; packet = with_hops (packet_of v) (get_or v 3 0 + more) }))
          (sym (room_there h.board t target j room it.sized.board on)) led;
      taken = refl;
      delivered = refl;
    }

    carries : Carries h t k code target more
    unfolding gone
    carries = record {
      to = j;
      room = room;
      inside = to_inside;
      apart = apart;
      is = moved_granted h t k code z ∙ done ∙ (λ i. outcome record { number = 0; slot = j; packet = empty_slot; left = left_is i } (carried h.board t k j more));
      head = trailer-carried t e full k j more it.inside to_inside;
      full = length-carried h.board t k j more it.fits to_fits ∙ full;
      seen = seen-carried;
    }

  pub hop_carries : (n : ℕ) → lead_of h.board t k code ≡ Hop n → Carries h t k code (at n ((layout_of h.board).place_of k).kind) 1
  hop_carries n f =
      carries _ 1 (rw f at (targets it.granted.named it.sized.board code)) (hop_room h.board t ((layout_of h.board).place_of k) n (rw f at it.granted.free))
      (ap (led_on h t k ((layout_of h.board).place_of k)) f) (by_hop n f (rw add-one))

  pub turn_carries : (l : Kind) → lead_of h.board t k code ≡ Turn l → Carries h t k code (at ((layout_of h.board).place_of k).node l) 0
  turn_carries l f =
      carries _ 0 (named_good it.granted.named it.sized.board).here (turn_room h.board t ((layout_of h.board).place_of k) l (rw f at it.granted.free))
      (ap (led_on h t k ((layout_of h.board).place_of k)) f) (by_turn l f (rw add-zero))
