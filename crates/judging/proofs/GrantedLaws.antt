-- When a move is granted: what acceptance says, and the other way.
-- Assumes nothing.
use Rattle.std.specs.Prelude.{Some}
use Prim.Native.Nat.{ℕ}
use mathlib.Core.Path.{◌≡◌, ap, ◌∙◌}
use mathlib.Core.Bool.{true, false, not}
use mathlib.Core.List.{List}
use borrow.Author.Tests.{not-false}
use Rattle.network.specs.declared.Kind.{Kind}
use Rattle.network.specs.declared.Place.{Place}
use Rattle.network.specs.declared.Lead.TheVariants.{Hop, Turn}
use Rattle.network.specs.Net.{at}
use Rattle.network.specs.Search.{number_at}
use Rattle.network.proofs.Tests.{cond_true, cond_false}
use Rattle.network.proofs.SearchLaws.{at_some}
use Rattle.board.specs.declared.Board.{Board}
use Rattle.board.specs.Board.{net_of}
use Rattle.board.specs.Layout.{layout_of}
use Rattle.trailer.specs.declared.Head.{Head}
use Rattle.table.specs.Refusals.{Row, first_due}
use Rattle.table.specs.Queues.{room_at}
use Rattle.table.proofs.RefusalLaws.{passed}
use Rattle.way.proofs.WayLaws.{stopped, stopped_hops}
use Rattle.judging.specs.Moves.{lead_of, barred, blocked, lead_rows, move_due}
use Rattle.judging.proofs.NamedLaws.{Named, none_named, named_none}

-- the lowest empty slot of the target queue
module _ (b : Board) (t : List ℕ) (here : Place) where
  pub hop_room : (n : ℕ) → blocked b t here (Hop n) ≡ false → room_at b t (at n here.kind) ≡ Some (number_at (room_at b t (at n here.kind)))
  hop_room n e = at_some _ (not-false _ e)

  pub turn_room : (k : Kind) → blocked b t here (Turn k) ≡ false → room_at b t (at here.node k) ≡ Some (number_at (room_at b t (at here.node k)))
  turn_room k e = at_some _ (not-false _ e)

pub record Granted (h : Head) (t : List ℕ) (k code : ℕ) : Type 0 where
  pub known : (net_of h.board).known code ≡ true
  pub named : Named h t k
  pub offered : barred (lead_of h.board t k code) ≡ false
  pub right_of_way : stopped h t k code ≡ false
  pub free : blocked h.board t ((layout_of h.board).place_of k) (lead_of h.board t k code) ≡ false

module _ (h : Head) (t : List ℕ) (k code : ℕ) where
  -- the refusals that the rule's answer comes to
  abbrev pub onward : List Row
  onward = lead_rows h t ((layout_of h.board).place_of k) code (lead_of h.board t k code)

  -- where the code is known and the slot holds a good packet, they decide
  pub past_slot : (net_of h.board).known code ≡ true → Named h t k → move_due h t k code ≡ first_due onward
  unfolding move_due
  past_slot c n = cond_false _ _ (ap not c) ∙ named_none h t k onward n

  -- 12 comes before 6: where the packet gives way it is due, whatever room there is
  pub way_due : (net_of h.board).known code ≡ true → Named h t k → stopped h t k code ≡ true → move_due h t k code ≡ 12
  way_due c n w = past_slot c n ∙ cond_false _ _ (ap barred (stopped_hops h t k code w).1) ∙ cond_true _ _ w

  pub due_granted : move_due h t k code ≡ 0 → Granted h t k code
  unfolding move_due
  due_granted e =
      let a = passed 1 _ _ e in
      let b = none_named h t k onward a.1 in
      let c = passed 4 _ _ b.1 in
      let d = passed 11 _ _ c.1 in
      record { known = not-false _ a.0; named = b.0; offered = c.0; right_of_way = d.0; free = (passed 5 _ _ d.1).0 }

  pub granted_due : Granted h t k code → move_due h t k code ≡ 0
  granted_due a = past_slot a.known a.named ∙ cond_false _ _ a.offered ∙ cond_false _ _ a.right_of_way ∙ cond_false _ _ a.free
