-- What a packet handed out leaves of a table, said once: the answer and the bytes, the trailer, the length, and the packets seen in their places.
-- Assumes nothing.
use Rattle.std.specs.Prelude.{Some}
use Prim.Native.Nat.{ℕ, ◌+◌, ◌<◌, ◌^◌}
use mathlib.Core.Path.{◌≡◌, refl, sym, ap, ◌∙◌}
use mathlib.Core.List.{List}
use native.Mathlib.Omega.{arith}
use native.Mathlib.Numerals.{add-one}
use lib.ListN.{length}
use Rattle.network.specs.declared.Lead.TheVariants.{Out}
use Rattle.network.specs.Packet.{handed}
use Rattle.network.specs.Table.{HandedOut}
use Rattle.slots.specs.Slots.{slot_at}
use Rattle.board.specs.Board.{net_of}
use Rattle.board.specs.Layout.{layout_of, Sized}
use Rattle.board.proofs.BoardLaws.{layout_laws}
use Rattle.trailer.specs.declared.Head.{Head}
use Rattle.trailer.specs.Trailer.{trailer_of, with_delivered}
use Rattle.trailer.proofs.CountLaws.{delivering, trailer-with_delivered, length-with_delivered, slot_at-with_delivered}
use Rattle.table.specs.Packets.{packet_of, slot_of, view_of, item_in}
use Rattle.table.specs.Queues.{empties_at}
use Rattle.table.specs.Carriage.{vacated}
use Rattle.table.specs.Calls.{outcome}
use Rattle.table.proofs.PacketLaws.{slot_held}
use Rattle.table.proofs.QueueLaws.{empties_same}
use Rattle.table.proofs.CarriageLaws.{length_vacated, trailer_vacated}
use Rattle.table.proofs.RoomLaws.{vacated_room}
use Rattle.judging.specs.Moves.{lead_of, move_due}
use Rattle.judging.proofs.NamedLaws.{named_good}
use Rattle.router.specs.Move.{handed_out, led_on, moved_in}
use Rattle.router.proofs.MoveLaws.{moved_granted}
use Rattle.router.proofs.Leaving.{Leaving, leaving, vacates}

-- the packet of slot k has been handed out, and one more is delivered
pub record Hands (h : Head) (t : List ℕ) (k code : ℕ) : Type 0 where
  -- the answer tells how many slots of the queue that it left are empty now
  pub is : let u = with_delivered (vacated h.board t k) (h.delivered + 1) in
      moved_in h t k code ≡ outcome record { number = 0; slot = 0; packet = slot_at t k; left = empties_at h.board u ((layout_of h.board).place_of k) } u
  pub head : trailer_of (with_delivered (vacated h.board t k) (h.delivered + 1)) ≡ Some (delivering h (h.delivered + 1))
  pub full : length (with_delivered (vacated h.board t k) (h.delivered + 1)) ≡ h.size
  pub seen : HandedOut (net_of h.board) (layout_of h.board) (view_of h t)
      (view_of (delivering h (h.delivered + 1)) (with_delivered (vacated h.board t k) (h.delivered + 1))) (handed (item_in h.board t k))

module _ (h : Head) (t : List ℕ) (e : trailer_of t ≡ Some h) (full : length t ≡ h.size) (k code : ℕ) (z : move_due h t k code ≡ 0) where
  it : Leaving h t k code
  it = leaving h t e full k code z

  abbrev rest : List ℕ
  rest = vacated h.board t k

  abbrev n : ℕ
  n = h.delivered + 1

  still : Sized h.board rest
  still = record { board = it.sized.board; full = length_vacated h.board t k it.fits ∙ it.sized.full }

  -- one slot of the queue that it left is empty more
  left_is : empties_at h.board t ((layout_of h.board).place_of k) + 1 ≡ empties_at h.board (with_delivered rest n) ((layout_of h.board).place_of k)
  left_is =
      let here = (layout_of h.board).place_of k in
      add-one _
      ∙ sym (vacated_room h.board t it.sized k it.inside it.granted.named.held)
      ∙ empties_same h.board it.sized.board here ((layout_laws h.board it.sized.board).on_net k it.inside) rest (with_delivered rest n)
      (λ i l p. sym (slot_at-with_delivered still n i l))

  pub out_hands : h.taken < 2 ^ 32 → lead_of h.board t k code ≡ Out → Hands h t k code
  unfolding handed_out
  out_hands small f =
      let due = (named_good it.granted.named it.sized.board).due in
      let long = length_vacated h.board t k it.fits in
      record {
        is =
            moved_granted h t k code z ∙ ap (led_on h t k ((layout_of h.board).place_of k)) f
            ∙ (λ i. outcome record { number = 0; slot = 0; packet = slot_at t k; left = left_is i } (with_delivered rest n));
        head = trailer-with_delivered rest n (trailer_vacated t e full k it.inside) (omega arith) (omega arith);
        full = length-with_delivered rest n (omega (arith, long, it.fits)) ∙ long ∙ full;
        seen = record {
          i = k;
          n = 0;
          p = packet_of (slot_at t k);
          code = code;
          was = slot_held (slot_at t k) it.granted.named.held;
          vacated = vacates it (view_of (delivering h n) (with_delivered rest n)) (λ i l. ap slot_of (slot_at-with_delivered still n i l));
          offered = f;
          given = refl;
          taken = refl;
          delivered = rw add-one;
        };
      }
