-- When a move must be accepted: a good packet's, by a code that the rule offers it, to a queue with an empty slot or out, where it gives way to none.
-- Assumes nothing.
use Prim.Native.Nat.{ℕ, ◌+◌, ◌<◌}
use mathlib.Core.Path.{◌≡◌, refl, sym, ap, subst}
use mathlib.Core.Bool.{Bool, true, false, not}
use mathlib.Core.List.{List}
use native.Mathlib.Omega.{arith}
use Rattle.network.specs.declared.Place.{Place}
use Rattle.network.specs.declared.Lead.{Lead}
use Rattle.network.specs.Net.{Net}
use Rattle.network.specs.Packet.{Packet, Item, offer}
use Rattle.network.specs.View.{held, Layout, item_at, items_of}
use Rattle.network.specs.Search.{is_at}
use Rattle.network.specs.Machine.{GivesWayTo, RightOfWay, Open, leaves, hops, turns}
use Rattle.network.specs.Table.{HasRoom}
use Rattle.network.proofs.Tests.{clash, never_true}
use Rattle.network.proofs.SearchLaws.{some_at}
use Rattle.network.proofs.Lists.{all_mem}
use Rattle.network.proofs.Slots.{held_mem}
use Rattle.slots.specs.Slots.{slot_at}
use Rattle.board.specs.declared.Board.{Board}
use Rattle.board.specs.Board.{GoodBoard, net_of}
use Rattle.board.specs.Layout.{layout_of}
use Rattle.board.proofs.BoardLaws.{net_laws}
use Rattle.trailer.specs.declared.Head.{Head}
use Rattle.table.specs.Packets.{view_of, item_in, good_at}
use Rattle.table.specs.Queues.{empty_at, room_at}
use Rattle.table.proofs.PacketLaws.{mark_held, slot_held, slot_says, slot_zeros}
use Rattle.judging.specs.Moves.{barred, blocked, move_due}
use Rattle.way.proofs.WayLaws.{stopped, stopped_by}
use Rattle.judging.proofs.GrantedLaws.{Granted, granted_due}

-- an offered code is one that there is
pub offered_known : (b : Board) (p : Place) (d c : ℕ) {lead : Lead} → (net_of b).rule p d c ≡ lead → barred lead ≡ false → (net_of b).known c ≡ true
offered_known b p d c e f = go ((net_of b).known c) refl
  where
    go : (k : Bool) → (net_of b).known c ≡ k → k ≡ true
    go true q = refl
    go false q = let n = (net_laws b).unknown_never p d c q in clash cc

-- a queue with an empty slot has room
has_room : (h : Head) (t : List ℕ) (target : Place) → HasRoom (layout_of h.board) (view_of h t) target → is_at (room_at h.board t target) ≡ true
unfolding room_at
has_room h t target r =
    let first = (layout_of h.board).first target in
    let found = some_at (empty_at t) first ((layout_of h.board).room target.kind) (first + r.0) (omega arith) (omega (arith, r.1))
    (slot_zeros (slot_at t (first + r.0)) r.2) in
    ap is_at found.1

module _ (h : Head) (t : List ℕ) (i code : ℕ) (g : GoodBoard h.board) (l : i < (layout_of h.board).size) where
  abbrev N : Net
  N = net_of h.board

  abbrev Y : Layout
  Y = layout_of h.board

  abbrev x : Item
  x = item_in h.board t i

  -- where it gives way to none of the packets held, it isn't stopped
  not_stopped : RightOfWay N (items_of Y (view_of h t)) x code → stopped h t i code ≡ false
  not_stopped right = never_true _ λ w.
      let by = stopped_by h t i code g l w in
      let there = slot_held (slot_at t by.0) (mark_held h t by.0 by.1.good) in
      all_mem (λ y. GivesWayTo N x y code → ⊥) (held_mem Y (view_of h t) by.0 _ by.1.inside there) right by.1.yields

  module _ (good : good_at h t i ≡ true) (right : RightOfWay N (items_of Y (view_of h t)) x code) where
    -- by where the rule leads it
    by_lead : {lead : Lead} → offer N x code ≡ lead → barred lead ≡ false → blocked h.board t x.place lead ≡ false → Granted h t i code
    by_lead f offered free = record {
      known = offered_known h.board _ _ code f offered;
      named = record { inside = l; held = mark_held h t i good; good = good };
      offered = rw f offered;
      right_of_way = not_stopped right;
      free = rw f free;
    }

    open_granted : Open N (HasRoom Y (view_of h t)) x code → Granted h t i code
    open_granted (leaves f) = by_lead f refl refl
    open_granted (hops n f r) = by_lead f refl (ap not (has_room h t _ r))
    open_granted (turns k f r) = by_lead f refl (ap not (has_room h t _ r))

  pub open_accepted : (p : Packet) → (view_of h t).at i ≡ held p → good_at h t i ≡ true → Open N (HasRoom Y (view_of h t)) (item_at Y i p) code
      → RightOfWay N (items_of Y (view_of h t)) (item_at Y i p) code → move_due h t i code ≡ 0
  open_accepted p e good o right =
      let own : item_at Y i p ≡ x = λ j. record { place = Y.place_of i; packet = sym (slot_says (slot_at t i) p e).1 j } in
      granted_due h t i code
      (open_granted good
      (subst (λ (y : Item). RightOfWay N (items_of Y (view_of h t)) y code) own right)
      (subst (λ (y : Item). Open N (HasRoom Y (view_of h t)) y code) own o))
