-- The papers' conditions on a slice with a good trailer, and the tests that the router makes for them: each says the other.
-- Assumes nothing.
use Rattle.std.specs.Prelude.{Some}
use Prim.Native.Nat.{ℕ, ◌+◌, ◌<◌, ◌≤◌}
use mathlib.Core.Path.{◌≡◌, refl, sym, ap, ◌∙◌}
use mathlib.Core.Logic.{◌≢◌}
use mathlib.Core.Bool.{true, false, not}
use mathlib.Core.List.{List}
use native.Mathlib.Omega.{arith}
use native.Mathlib.Decide.{dec_lt}
use borrow.Author.Tests.{not-false}
use Rattle.network.specs.declared.Place.{Place}
use Rattle.network.specs.declared.Lead.{Lead}
use Rattle.network.specs.declared.Lead.TheVariants.{Hop, Turn, Out, NotOffered}
use Rattle.network.specs.Net.{at}
use Rattle.network.specs.Search.{is_at, number_at}
use Rattle.network.proofs.Tests.{clash, never_true}
use Rattle.network.proofs.SearchLaws.{at_some, some_at}
use Rattle.network.proofs.Course.{means_good}
use Rattle.slots.specs.Slots.{zeros}
use Rattle.slots.proofs.SlotLaws.{length-slot_at}
use Rattle.slots.proofs.ZeroLaws.{zeros-empty_slot}
use Rattle.board.specs.Layout.{Sized}
use Rattle.board.proofs.BoardLaws.{published_on_lem, slot_fits}
use Rattle.table.specs.Packets.{good_at}
use Rattle.table.specs.Queues.{empty_at, room_at}
use Rattle.table.proofs.QueueLaws.{queue_at, room_lowest, room_there, room_within}
use Rattle.table.proofs.PacketLaws.{mark_held, good_here}
use Rattle.judging.specs.Moves.{lead_of, barred, blocked}
use Rattle.judging.specs.Verdicts.{Targets}
use Rattle.way.proofs.WayLaws.{stopped, stopped_by, by_stopped}
use Rattle.calls.specs.Slices.{head_in, board_in, table_in, GoodIn, layout_in, net_in, slots_in, slot_in, place_in}
use Rattle.promises.specs.Conditions.{EmptyAt, HeldAt, GoodAt, lead_in, EmptyOf, HasEmpty, LowestOf, Room, GivesWay}
use Rattle.promises.proofs.Reading.{good_is, table_fits}

-- the published function is the router's rule
pub lead_is : (s : List ℕ) (k code : ℕ) → lead_in s k code ≡ lead_of (board_in s) (table_in s) k code
lead_is s k code = sym (published_on_lem (board_in s) (place_in s k) _ code)

pub not_barred : (lead : Lead) → lead ≢ NotOffered → barred lead ≡ false
not_barred (Hop n) u = refl
not_barred (Turn k) u = refl
not_barred Out u = refl
not_barred NotOffered u = absurd (u refl)

pub barred_never : (lead : Lead) → barred lead ≡ true → lead ≡ NotOffered
barred_never (Hop n) e = clash cc
barred_never (Turn k) e = clash cc
barred_never Out e = clash cc
barred_never NotOffered e = refl

module _ (s : List ℕ) (g : GoodIn s) where
  pub sized : Sized (board_in s) (table_in s)
  sized = table_fits s (good_is s g)

  -- ---- a slot

  module _ (k : ℕ) where
    pub empty_zeros : EmptyAt s k → zeros (slot_in s k) ≡ true
    empty_zeros e = ap zeros e

    pub zeros_held : zeros (slot_in s k) ≡ false → HeldAt s k
    zeros_held e h = let f = empty_zeros h in clash cc

    module _ (l : k < slots_in s) where
      pub zeros_empty : zeros (slot_in s k) ≡ true → EmptyAt s k
      zeros_empty e = zeros-empty_slot (slot_in s k) (length-slot_at (table_in s) k (slot_fits sized k l)) e

      pub held_zeros : HeldAt s k → zeros (slot_in s k) ≡ false
      held_zeros h = never_true _ (λ e. h (zeros_empty e))

      pub test_good : good_at (head_in s) (table_in s) k ≡ true → GoodAt s k
      test_good e = good_here (head_in s) (table_in s) k e g.ranges l

    pub good_test : GoodAt s k → good_at (head_in s) (table_in s) k ≡ true
    unfolding good_at
    good_test h = means_good (net_in s) (head_in s).taken (head_in s).delivered _ h

  -- ---- a queue

  module _ (p : Place) where
    -- an empty slot of the queue lies among the queue's slots
    in_queue : (j : ℕ) → EmptyOf s p j → ((layout_in s).first p ≤ j) × (j < (layout_in s).first p + (layout_in s).room p.kind)
    in_queue j e = queue_at (board_in s) g.ranges p j e.inside e.there

    pub empty_room : HasEmpty s p → is_at (room_at (board_in s) (table_in s) p) ≡ true
    unfolding room_at
    empty_room e =
        let i = in_queue e.0 e.1 in
        ap is_at (some_at (empty_at (table_in s)) _ _ e.0 i.0 i.1 (empty_zeros e.0 e.1.empty)).1

    pub full_none : is_at (room_at (board_in s) (table_in s) p) ≡ false → HasEmpty s p → ⊥
    full_none f e = let n = empty_room e in clash cc

    module _ (v : (net_in s).valid p.node ≡ true) where
      -- the slot that the search finds is the lowest empty one
      pub room_lowest_of : (k : ℕ) → room_at (board_in s) (table_in s) p ≡ Some k → LowestOf s p k
      room_lowest_of k e =
          let low = room_lowest (board_in s) (table_in s) p k e in
          let inside = room_within (board_in s) (table_in s) p k e g.ranges v in
          record {
            one = record { inside = inside; there = room_there (board_in s) (table_in s) p k e g.ranges v; empty = zeros_empty k inside low.has };
            least = λ i q. elim (dec_lt i k) [
              | yes l ↦
                  let a = low.least i (in_queue i q).0 l in
                  let b = empty_zeros i q.empty in
                  clash cc
              | no l ↦ omega arith
            ];
          }

      pub room_has_empty : is_at (room_at (board_in s) (table_in s) p) ≡ true → HasEmpty s p
      room_has_empty n = (number_at (room_at (board_in s) (table_in s) p), (room_lowest_of _ (at_some _ n)).one)

  -- ---- room, as the condition and as the test
  pub room_free : (here : Place) (lead : Lead) → Room s here lead → blocked (board_in s) (table_in s) here lead ≡ false
  room_free here (Hop n) r = ap not (empty_room (at n here.kind) r)
  room_free here (Turn k) r = ap not (empty_room (at here.node k) r)
  room_free here Out r = refl
  room_free here NotOffered r = refl

  pub free_room : (here : Place) (lead : Lead) → Targets (net_in s) here lead → blocked (board_in s) (table_in s) here lead ≡ false → Room s here lead
  free_room here (Hop n) v e = room_has_empty (at n here.kind) v (not-false _ e)
  free_room here (Turn k) v e = room_has_empty (at here.node k) v (not-false _ e)
  free_room here Out v e = tt
  free_room here NotOffered v e = tt

  -- ---- the right of way
  module _ (k code : ℕ) (l : k < slots_in s) where
    pub way_given : stopped (head_in s) (table_in s) k code ≡ true → GivesWay s k code
    way_given e =
        let by = stopped_by (head_in s) (table_in s) k code g.ranges l e in
        let j = by.0 in
        let w = by.1 in
        let way = w.yields in (
          j,
          record {
            in_A = way.in_A;
            hop = (way.hop.0, lead_is s k code ∙ way.hop.1);
            inside = w.inside;
            in_B = way.in_B;
            held = zeros_held j (mark_held (head_in s) (table_in s) j w.good);
            good = test_good j w.inside w.good;
            same_hop = (way.same_hop.0, lead_is s j code ∙ way.same_hop.1);
          },
        )

    pub given_way : GivesWay s k code → stopped (head_in s) (table_in s) k code ≡ true
    given_way (j, w) =
        by_stopped (head_in s) (table_in s) k code g.ranges l j record {
          inside = w.inside;
          good = good_test j w.good;
          yields = record {
            in_A = w.in_A;
            in_B = w.in_B;
            hop = (w.hop.0, sym (lead_is s k code) ∙ w.hop.1);
            same_hop = (w.same_hop.0, sym (lead_is s j code) ∙ w.same_hop.1);
          };
        }
