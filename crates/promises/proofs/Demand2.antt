-- Demand 2 holds of the router: exactly the offered moves that give way to none and have room are accepted, each does its one step, and a copy shows no
-- payload.
-- Assumes nothing.
use Rattle.std.specs.Prelude.{Result, ⊤}
use Prim.Native.Nat.{ℕ, ◌-◌, ◌*◌, ◌≤◌}
use mathlib.Core.Path.{◌≡◌, refl, sym, ap, subst, ◌∙◌}
use mathlib.Core.Logic.{◌≢◌}
use mathlib.Core.Bool.{false}
use mathlib.Core.List.{List}
use native.Mathlib.Omega.{arith}
use lib.ListN.{length, drop}
use Rattle.network.specs.declared.Lead.TheVariants.{NotOffered}
use Rattle.network.proofs.Tests.{clash, never_true}
use Rattle.board.specs.Layout.{layout_of}
use Rattle.trailer.specs.declared.Head.{Head}
use Rattle.table.specs.declared.refusals.Refusal.{Refusal}
use Rattle.table.specs.Calls.{Outcome}
use Rattle.judging.specs.Moves.{barred, lead_of}
use Rattle.judging.proofs.NamedLaws.{targets}
use Rattle.way.proofs.WayLaws.{stopped}
use Rattle.judging.proofs.GrantedLaws.{Granted, due_granted, granted_due}
use Rattle.router.specs.Move.{moved_slice}
use Rattle.survey.specs.Copy.{veiled, copied_slice, copy_answer}
use Rattle.survey.proofs.CopyLaws.{Made, copied_made}
use Rattle.survey.proofs.ShownLaws.{length-veiled, veiled_slot, veiled_end}
use Rattle.survey.proofs.Secrecy.{secret}
use Rattle.calls.specs.Slices.{Bytes, head_in, board_in, table_in, GoodIn, slots_in, place_in}
use Rattle.calls.specs.Router.{ours}
use Rattle.promises.specs.Conditions.{lead_in}
use Rattle.promises.specs.Demand2.{GoodPacket, Offered, OneStep, Shows, Demand2}
use Rattle.promises.proofs.Reading.{head_is, table_is, good_in, good_is}
use Rattle.promises.proofs.Steps.{offered_known}
use Rattle.promises.proofs.Checked.{taken_small, number_passes}
use Rattle.promises.proofs.Conditions.{lead_is, held_zeros, zeros_held, good_test, test_good, not_barred, room_free, free_room, way_given, given_way}
use Rattle.promises.proofs.Tables.{slots_long, table-long, ends_alike}
use Rattle.promises.proofs.OneStep.{accepted_trailer, number_is, it_steps}

-- ---- which moves are accepted

module _ (s : List ℕ) (g : GoodIn s) where
  module _ (k code : ℕ) where
    accepts : (moved_slice s k code).answer.number ≡ 0 → Granted (head_in s) (table_in s) k code
    accepts z = due_granted (head_in s) (table_in s) k code (sym (number_is s g k code) ∙ z)

    good_packet : Granted (head_in s) (table_in s) k code → GoodPacket s k
    good_packet a = record {
      trailer = g;
      inside = a.named.inside;
      held = zeros_held s g k a.named.held;
      good = test_good s g k a.named.inside a.named.good;
    }

    is_offered : Granted (head_in s) (table_in s) k code → Offered s k code
    is_offered a = record {
      leads = λ n. let b : barred NotOffered ≡ false = rw (sym (lead_is s k code) ∙ n) at a.offered in clash cc;
      right_of_way = λ w. let t = given_way s g k code a.named.inside w in let f = a.right_of_way in clash cc;
      room = rw (lead_is s k code) (free_room s g (place_in s k) (lead_of (board_in s) (table_in s) k code) (targets a.named g.ranges code) a.free);
    }

    -- a good packet's move that is offered, gives way to none and has room
    offered_accepted : GoodPacket s k → Offered s k code → Granted (head_in s) (table_in s) k code
    offered_accepted p o =
        let leads : lead_of (board_in s) (table_in s) k code ≢ NotOffered = λ n. o.leads (lead_is s k code ∙ n) in
        let offered = not_barred _ leads in
        record {
          known = offered_known (board_in s) (place_in s k) _ code refl offered;
          named = record { inside = p.inside; held = held_zeros s g k p.inside p.held; good = good_test s g k p.good };
          offered = offered;
          right_of_way = never_true (stopped (head_in s) (table_in s) k code) (λ w. o.right_of_way (way_given s g k code p.inside w));
          free = room_free s g (place_in s k) (lead_of (board_in s) (table_in s) k code) (rw (lead_is s k code) at o.room);
        }

one_step : (s : List ℕ) → Bytes s → (k code : ℕ) → (moved_slice s k code).answer.number ≡ 0 → OneStep s k (lead_in s k code) (moved_slice s k code)
one_step s b k code z =
    let g = accepted_trailer s k code z in
    rw (lead_is s k code)
    (it_steps s g k code (sym (number_is s g k code) ∙ z) (taken_small s b (good_is s g)) (lead_of (board_in s) (table_in s) k code) refl)

-- ---- the copy for outsiders

module _ (s out : List ℕ) (z : (copy_answer (copied_slice s out).answer).number ≡ 0) where
  made : Made s out
  made = copied_made s out (number_passes (copied_slice s out).answer z)

  copied-trailer : GoodIn s
  copied-trailer = good_in s made.head

  copied-bytes : (copied_slice s out).bytes ≡ veiled (slots_in s) (table_in s)
  copied-bytes =
      made.bytes
      ∙ ap (λ (h : Head). veiled (layout_of h.board).size (drop (length s - h.size) s)) (sym (head_is s made.head))
      ∙ ap (veiled (slots_in s)) (sym (table_is s (good_is s copied-trailer)))

  shows : Shows s (copied_slice s out).bytes
  shows =
      let g = copied-trailer in
      let n = slots_in s in
      let l : 16 * n ≤ length (table_in s) = omega (arith, slots_long s g) in
      let same = length-veiled n (table_in s) l in
      subst (Shows s) (sym copied-bytes)
      (record {
        long = same ∙ table-long s g;
        slots = λ k m. veiled_slot n (table_in s) k m l;
        trailer = ends_alike s g (veiled n (table_in s)) same (veiled_end n (table_in s) l);
      })

pub demand_2 : Demand2 ours
demand_2 = record {
  exactly = λ s b k code p. (
    λ z. is_offered s p.trailer k code (accepts s p.trailer k code z),
    λ o. number_is s p.trailer k code ∙ granted_due (head_in s) (table_in s) k code (offered_accepted s p.trailer k code p o),
  );
  only = λ s b k code z.
      let g = accepted_trailer s k code z in
      let a = accepts s g k code z in
      (good_packet s g k code a, a.known);
  step = one_step;
  copy = λ s out b z. shows s out z;
  secret = λ s u out a. (
    ap (λ (o : Outcome (Result ⊤ Refusal) (List ℕ)). copy_answer o.answer) (secret a out),
    ap (λ (o : Outcome (Result ⊤ Refusal) (List ℕ)). o.bytes) (secret a out),
  );
}
