-- A packet that is welcome is taken in, and else the call refuses with the number that is due; and what a new record says, and how long it is.
-- Assumes nothing.
use Prim.Native.Nat.{ℕ, ◌<◌, ◌^◌}
use mathlib.Core.Path.{◌≡◌}
use mathlib.Core.Logic.{◌≢◌}
use mathlib.Core.List.{List}
use native.Mathlib.Omega.{arith}
use lib.ListN.{length}
use lib.Seq.{take_all}
use Rattle.network.specs.Search.{number_at}
use Rattle.slots.specs.Bytes.{bytes32}
use Rattle.slots.proofs.Numbers.{digits}
use Rattle.trailer.specs.declared.Head.{Head}
use Rattle.table.specs.Packets.{packet_of}
use Rattle.table.specs.Calls.{outcome}
use Rattle.table.proofs.CallLaws.{answered-done, answered_refused}
use Rattle.judging.specs.Takings.{waiting_room, take_rows}
use Rattle.judging.proofs.WelcomeLaws.{take_due}
use Rattle.router.specs.TakeIn.{refusal, new_record, took_in, taken_in}

module _ (h : Head) (t : List ℕ) (source destination : ℕ) (payload : List ℕ) where
  pub taken_refused : {n : ℕ} → take_due h t source destination ≡ n → n ≢ 0 → taken_in h t source destination payload ≡ outcome (refusal n) t
  unfolding taken_in
  taken_refused e u = answered_refused (take_rows h t source destination) refusal t _ e u

  pub taken_done : take_due h t source destination ≡ 0 → taken_in h t source destination payload ≡ took_in h t source destination payload (number_at (waiting_room h t source))
  unfolding taken_in
  taken_done e = answered-done (take_rows h t source destination) refusal t _ e

-- mark 1, the source, the destination, no hop made, the serial, and the payload, all eight bytes
pub new_packet_lem : (source destination serial : ℕ) (payload : List ℕ) → serial < 2 ^ 32 → length payload ≡ 8
    → packet_of (new_record source destination serial payload)
    ≡ record { mark = 1; source = source; destination = destination; hops = 0; serial = serial; payload = payload }
unfolding new_record bytes32
new_packet_lem source destination serial payload l e = λ i. record {
  mark = 1;
  source = source;
  destination = destination;
  hops = 0;
  serial = digits serial l i;
  payload = take_all 8 payload (omega arith) i;
}

pub length-new_record : (source destination serial : ℕ) (payload : List ℕ) → length payload ≡ 8
    → length (new_record source destination serial payload) ≡ 16
unfolding new_record bytes32
length-new_record source destination serial payload e = omega arith
