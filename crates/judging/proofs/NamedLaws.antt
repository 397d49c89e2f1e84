-- The slot that a call names: where neither 2, 3 nor 4 is due it holds a good packet, and the rule leads that to a node, or keeps it at one, or lets it
-- leave.
-- Assumes nothing.
use Prim.Native.Nat.{ℕ, ◌<◌}
use mathlib.Core.Path.{◌≡◌, refl, ap, ◌∙◌}
use mathlib.Core.Bool.{true, false, not}
use mathlib.Core.List.{List, [], ◌++◌}
use borrow.Author.Tests.{leb-false, lt-leb, not-false}
use Rattle.network.specs.declared.Lead.{Lead}
use Rattle.network.specs.declared.Lead.TheVariants.{Hop, Turn, Out, NotOffered}
use Rattle.network.specs.Packet.{GoodItem}
use Rattle.network.proofs.Tests.{cond_false}
use Rattle.board.specs.Board.{GoodBoard, net_of}
use Rattle.board.specs.Layout.{layout_of}
use Rattle.board.proofs.BoardLaws.{net_laws}
use Rattle.trailer.specs.declared.Head.{Head}
use Rattle.table.specs.Refusals.{Row, first_due}
use Rattle.table.specs.Packets.{item_in, good_at}
use Rattle.table.specs.Queues.{empty_at}
use Rattle.table.proofs.RefusalLaws.{passed}
use Rattle.table.proofs.PacketLaws.{good_here}
use Rattle.judging.specs.Named.{slot_rows, slot_due}
use Rattle.judging.specs.Moves.{lead_of}
use Rattle.judging.specs.Verdicts.{Targets}

pub record Named (h : Head) (t : List ℕ) (k : ℕ) : Type 0 where
  pub inside : k < (layout_of h.board).size
  pub held : empty_at t k ≡ false
  pub good : good_at h t k ≡ true

module _ (h : Head) (t : List ℕ) (k : ℕ) where
  pub none_named : (rs : List Row) → first_due (slot_rows h t k ++ rs) ≡ 0 → Named h t k × (first_due rs ≡ 0)
  none_named rs e =
      let a = passed 1 _ _ e in
      let b = passed 2 _ _ a.1 in
      let c = passed 3 _ _ b.1 in
      (record { inside = leb-false _ _ a.0; held = b.0; good = not-false _ c.0 }, c.1)

  pub named_none : (rs : List Row) → Named h t k → first_due (slot_rows h t k ++ rs) ≡ first_due rs
  named_none rs n = cond_false _ _ (lt-leb _ _ n.inside) ∙ cond_false _ _ n.held ∙ cond_false _ _ (ap not n.good)

  pub due_named : slot_due h t k ≡ 0 → Named h t k
  unfolding slot_due
  due_named e = (none_named [] e).0

module _ {h : Head} {t : List ℕ} {k : ℕ} (n : Named h t k) (g : GoodBoard h.board) where
  pub named_good : GoodItem (net_of h.board) h.taken h.delivered (item_in h.board t k)
  named_good = good_here h t k n.good g n.inside

  pub targets : (code : ℕ) → Targets (net_of h.board) ((layout_of h.board).place_of k) (lead_of h.board t k code)
  targets code = by (lead_of h.board t k code) refl
    where
      by : (lead : Lead) → lead_of h.board t k code ≡ lead → Targets (net_of h.board) ((layout_of h.board).place_of k) lead
      by (Hop m) e = ((net_laws h.board).rule _ _ named_good.here named_good.to).hop_valid _ code m e
      by (Turn l) e = named_good.here
      by Out e = tt
      by NotOffered e = tt
