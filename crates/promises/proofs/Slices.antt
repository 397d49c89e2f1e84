-- The router's moves on a slice are a table machine's, so demand 3 holds of slices under proposed moves.
-- Assumes nothing.
use Rattle.std.specs.Prelude.{Some}
use Prim.Native.Nat.{ℕ, ◌+◌, ◌-◌, ◌<◌, ◌^◌}
use mathlib.Core.Path.{◌≡◌, refl, sym, ap, ◌∙◌}
use mathlib.Core.Logic.{◌≢◌, ◌⊎◌, inl, inr}
use mathlib.Core.Bool.{true, false}
use mathlib.Core.List.{List, ◌++◌}
use lib.ListN.{length, take, drop}
use Rattle.network.specs.declared.Place.{Place}
use Rattle.network.specs.declared.Lead.{Lead}
use Rattle.network.specs.declared.Lead.TheVariants.{Hop, Turn, Out, NotOffered}
use Rattle.network.specs.Net.{delivery}
use Rattle.network.specs.Packet.{Packet, Delivery, GoodItem, handed}
use Rattle.network.specs.View.{held, View, item_at, items_of, contents}
use Rattle.network.specs.Contents.{Passing}
use Rattle.network.specs.Run.{moved, delivered, Accepted, trace}
use Rattle.network.specs.Machine.{Stepped, Left, RightOfWay, Open}
use Rattle.network.specs.Table.{Carried, HandedOut, HasRoom, TableMachine}
use Rattle.network.specs.Drain.{Drains}
use Rattle.network.proofs.Tests.{clash}
use Rattle.network.proofs.Lists.{all_mem}
use Rattle.network.proofs.Course.{means_good}
use Rattle.network.proofs.Slots.{held_mem, carried_stepped, handed_left, table_drains, table_fit}
use Rattle.slots.specs.Slots.{slot_at}
use Rattle.board.specs.declared.Board.{Board}
use Rattle.board.specs.Board.{net_of}
use Rattle.board.specs.Layout.{layout_of}
use Rattle.board.proofs.BoardLaws.{net_laws, layout_laws}
use Rattle.trailer.specs.declared.Head.{Head}
use Rattle.trailer.specs.Trailer.{trailer_of, with_delivered}
use Rattle.trailer.proofs.TrailerLaws.{trailer-after, trailer-table, trailer_sized, length-table}
use Rattle.trailer.proofs.CountLaws.{delivering}
use Rattle.table.specs.Packets.{packet_of, view_of, item_in, good_at}
use Rattle.table.specs.Carriage.{vacated, carried}
use Rattle.table.specs.Calls.{Outcome, after}
use Rattle.table.proofs.PacketLaws.{slot_says}
use Rattle.table.proofs.CallLaws.{on_table_good}
use Rattle.judging.specs.Moves.{barred, lead_of, move_due}
use Rattle.judging.proofs.GrantedLaws.{due_granted}
use Rattle.router.specs.Move.{MoveAnswer, refusal, moved_in, moved_slice}
use Rattle.router.proofs.MoveLaws.{moved_number}
use Rattle.router.proofs.Carrying.{Carries, hop_carries, turn_carries}
use Rattle.router.proofs.Handing.{Hands, out_hands}
use Rattle.calls.specs.Slices.{see}
use Rattle.promises.proofs.Reading.{head_is, table_is, head-after, table-after}
use Rattle.promises.proofs.Steps.{open_accepted}
use Rattle.promises.proofs.Proposals.{Proposal, answering, told_moved, told_delivered, accepted_by_number}

-- a table behind any bytes is seen as it is
pub see-after : (p u : List ℕ) (h : Head) → trailer_of u ≡ Some h → length u ≡ h.size → see (p ++ u) ≡ view_of h u
see-after p u h e l = λ i. view_of (head-after p u e i) (table-after p u e l i)

pub see_good : (s : List ℕ) (h : Head) → trailer_of s ≡ Some h → see s ≡ view_of h (drop (length s - h.size) s)
see_good s h e = λ i. view_of (head_is s e i) (table_is s e i)

-- ---- an accepted move on a slice

module _ (s : List ℕ) (h : Head) (e : trailer_of s ≡ Some h) (k code : ℕ) where
  abbrev t : List ℕ
  t = drop (length s - h.size) s

  abbrev before : List ℕ
  before = take (length s - h.size) s

  pub slice_is : moved_slice s k code ≡ after before (moved_in h t k code)
  unfolding moved_slice
  slice_is = on_table_good s refusal (λ h t. moved_in h t k code) h e

  pub number_is : (moved_slice s k code).answer.number ≡ move_due h t k code
  number_is = ap (λ (o : Outcome MoveAnswer (List ℕ)). o.answer.number) slice_is ∙ moved_number h t k code

  -- the slice afterwards: the same bytes before a table with head g, which shows what the step makes of the slots
  record After (g : Head) (Step : View → Type 0) : Type 0 where
    table : List ℕ
    bytes : (moved_slice s k code).bytes ≡ before ++ table
    head : trailer_of table ≡ Some g
    full : length table ≡ g.size
    step : Step (view_of g table)

  module _ (z : move_due h t k code ≡ 0) where
    carried-after : (target : Place) (more : ℕ) → Carries h t k code target more → After h (Carried (net_of h.board) (layout_of h.board) (view_of h t))
    carried-after target more c = record {
      table = carried h.board t k c.to more;
      bytes = ap (λ (o : Outcome MoveAnswer (List ℕ)). o.bytes) (slice_is ∙ ap (after before) c.is);
      head = c.head;
      full = c.full;
      step = c.seen;
    }

    carried_on : (lead : Lead) → lead_of h.board t k code ≡ lead → lead ≢ Out → After h (Carried (net_of h.board) (layout_of h.board) (view_of h t))
    carried_on (Hop n) f u = carried-after _ 1 (hop_carries h t (trailer-table s e) (length-table s e) k code z n f)
    carried_on (Turn l) f u = carried-after _ 0 (turn_carries h t (trailer-table s e) (length-table s e) k code z l f)
    carried_on Out f u = absurd (u refl)
    carried_on NotOffered f u = let b : barred NotOffered ≡ false = rw f at (due_granted h t k code z).offered in clash cc

    handed_on : h.taken < 2 ^ 32 → lead_of h.board t k code ≡ Out
        → After (delivering h (h.delivered + 1)) (λ w. HandedOut (net_of h.board) (layout_of h.board) (view_of h t) w (handed (item_in h.board t k)))
        × ((moved_slice s k code).answer.packet ≡ slot_at t k)
    handed_on small f =
        let c : Hands h t k code = out_hands h t (trailer-table s e) (length-table s e) k code z small f in
        let all = slice_is ∙ ap (after before) c.is in (
          record {
            table = with_delivered (vacated h.board t k) (h.delivered + 1);
            bytes = ap (λ (o : Outcome MoveAnswer (List ℕ)). o.bytes) all;
            head = c.head;
            full = c.full;
            step = c.seen;
          },
          ap (λ (o : Outcome MoveAnswer (List ℕ)). o.answer.packet) all,
        )

-- ---- the machine, and demand 3 of it

-- an offered delivery leads out
pub delivery-out : (b : Board) (p : Place) (d : ℕ) {c : ℕ} → c ≡ delivery → barred ((net_of b).rule p d c) ≡ false → (net_of b).rule p d c ≡ Out
delivery-out b p d {c} q f = ap ((net_of b).rule p d) q ∙ by ((net_laws b).delivers p d) (rw q at f)
  where
    by : ((net_of b).rule p d delivery ≡ Out) ⊎ ((net_of b).rule p d delivery ≡ NotOffered) → barred ((net_of b).rule p d delivery) ≡ false
        → (net_of b).rule p d delivery ≡ Out
    by (inl e) g = e
    by (inr e) g = let n : barred NotOffered ≡ false = rw e at g in clash cc

-- slices whose table is that of h₀, but for the count of deliveries
abbrev Fit : Head → List ℕ → Type 0
Fit h₀ s = (d : ℕ) × (trailer_of s ≡ Some (delivering h₀ d))

module _ (h₀ : Head) (small : h₀.taken < 2 ^ 32) where
  module _ (s u : List ℕ) (c : Proposal) (f : Fit h₀ s) where
    abbrev h : Head
    h = delivering h₀ f.0

    -- the slice afterwards as it is seen
    seen-after : (g : Head) (Step : View → Type 0) → After s h f.1 c.slot c.code g Step → (moved_slice s c.slot c.code).bytes ≡ u
        → (trailer_of u ≡ Some g) × Step (see u)
    seen-after g Step r e =
        let q : before s h f.1 c.slot c.code ++ r.table ≡ u = sym r.bytes ∙ e in (
          rw (← q) (trailer-after (before s h f.1 c.slot c.code) r.table r.head),
          rw (← q, see-after (before s h f.1 c.slot c.code) r.table g r.head r.full) r.step,
        )

    carries : answering s c ≡ moved u → Fit h₀ u × Stepped (net_of h.board) (contents (layout_of h.board) (see s)) (contents (layout_of h.board) (see u))
    carries e =
        let r = told_moved s c (moved_slice s c.slot c.code) u e in
        let z = sym (number_is s h f.1 c.slot c.code) ∙ r.0 in
        let lead = lead_of h.board (t s h f.1 c.slot c.code) c.slot c.code in
        let w = seen-after h _ (carried_on s h f.1 c.slot c.code z lead refl (λ o. r.1 ((net_laws h.board).out_code _ _ c.code o))) r.2 in
        ((f.0, w.0), carried_stepped (net_of h.board) (layout_of h.board) (see s) (see u) (rw (see_good s h f.1) w.1))

    hands : (d : Delivery) → answering s c ≡ delivered u d → Fit h₀ u × Left (net_of h.board) (contents (layout_of h.board) (see s)) (contents (layout_of h.board) (see u)) d
    hands d e =
        let o = moved_slice s c.slot c.code in
        let r = told_delivered s c o u d e in
        let z = sym (number_is s h f.1 c.slot c.code) ∙ r.0 in
        let table = t s h f.1 c.slot c.code in
        let x = item_in h.board table c.slot in
        let offered = (due_granted h table c.slot c.code z).offered in
        let out : lead_of h.board table c.slot c.code ≡ Out = delivery-out h.board x.place x.packet.destination r.1 offered in
        let w = handed_on s h f.1 c.slot c.code z small out in
        let a = seen-after (delivering h (h.delivered + 1)) _ w.0 r.2 in
        let same : handed x ≡ d =
        (λ i. record { node = ((layout_of (sym (head_is s f.1) i).board).place_of c.slot).node; packet = packet_of (sym w.1 i) }) ∙ r.3 in
        ((h.delivered + 1, a.0), handed_left (net_of h.board) (layout_of h.board) (see s) (see u) d (rw (see_good s h f.1, ← same) a.1))

  -- a good packet's move that the rule offers, to a queue with room or out, is accepted where it gives way to none
  accepts : (s : List ℕ) (f : Fit h₀ s) → Passing (net_of h₀.board) (contents (layout_of h₀.board) (see s)) → (i : ℕ) (p : Packet) (code : ℕ)
      → i < (layout_of h₀.board).size → (see s).at i ≡ held p
      → Open (net_of h₀.board) (HasRoom (layout_of h₀.board) (see s)) (item_at (layout_of h₀.board) i p) code
      → RightOfWay (net_of h₀.board) (items_of (layout_of h₀.board) (see s)) (item_at (layout_of h₀.board) i p) code
      → Accepted (answering s record { slot = i; code = code })
  unfolding good_at
  accepts s f P i p code l e o right =
      let g = delivering h₀ f.0 in
      let table = drop (length s - g.size) s in
      let there : (view_of g table).at i ≡ held p = rw (table_is s f.1) at e in
      let packet = (slot_says (slot_at table i) p there).1 in
      let fine = all_mem (GoodItem (net_of g.board) (see s).taken (see s).delivered) (held_mem (layout_of g.board) (see s) i p l e) P.sound in
      let good-there : good_at g table i ≡ true = rw (packet) (means_good (net_of g.board) g.taken g.delivered (item_at (layout_of g.board) i p) (rw (head_is s f.1) at fine)) in
      let z = open_accepted g table i code (trailer_sized s f.1).board l p there good-there
      (rw (table_is s f.1) at o) (rw (table_is s f.1) at right) in
      accepted_by_number s record { slot = i; code = code } (moved_slice s i code) (number_is s g f.1 i code ∙ z)

  machine : TableMachine (net_of h₀.board) (layout_of h₀.board) see (Fit h₀) answering
  machine = record {
    carries = λ s u c f P. carries s u c f;
    hands = λ s u c d f P. hands s u c f d;
    accepts = λ s f P i p code l e o right. (record { slot = i; code = code }, accepts s f P i p code l e o right);
  }

-- demand 3 of a slice under proposed moves: the table passes, and the count of packets taken in is one of four bytes
pub slices_drain : (s : List ℕ) (h : Head) → trailer_of s ≡ Some h → h.taken < 2 ^ 32 → Passing (net_of h.board) (contents (layout_of h.board) (see s))
    → (calls : List Proposal) → Drains (net_of h.board) (λ u. contents (layout_of h.board) (see u)) answering s calls
slices_drain s h e small P calls =
    table_drains (net_of h.board) (net_laws h.board) (layout_of h.board) (layout_laws h.board (trailer_sized s e).board) see (Fit h) answering
    (machine h small) s (h.delivered, e) P calls

-- and it is a table still, with the head it had but for the count of deliveries
pub slices_fit : (s : List ℕ) (h : Head) → trailer_of s ≡ Some h → h.taken < 2 ^ 32 → Passing (net_of h.board) (contents (layout_of h.board) (see s))
    → (calls : List Proposal) → (d : ℕ) × (trailer_of (trace answering s calls).last ≡ Some (delivering h d))
slices_fit s h e small P calls =
    table_fit (net_of h.board) (net_laws h.board) (layout_of h.board) (layout_laws h.board (trailer_sized s e).board) see (Fit h) answering
    (machine h small) s (h.delivered, e) P calls
