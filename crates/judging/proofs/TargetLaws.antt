-- Where an accepted move's packet goes: into a slot of the table that is empty, and so another than its own, with at most one hop more, which fits.
-- Assumes nothing.
use Rattle.std.specs.Prelude.{Option, Some, None}
use Prim.Native.Nat.{ℕ, ◌+◌, ◌<◌, ◌≤◌}
use mathlib.Core.Path.{◌≡◌, refl, sym, ap, ◌∙◌}
use mathlib.Core.Logic.{◌≢◌}
use mathlib.Core.Bool.{true, false}
use mathlib.Core.List.{List}
use native.Mathlib.Omega.{arith}
use borrow.Author.Tests.{not-false}
use lib.ListN.{get_or}
use Rattle.network.specs.declared.Place.{Place}
use Rattle.network.specs.declared.Lead.{Lead}
use Rattle.network.specs.declared.Lead.TheVariants.{Hop, Turn, Out, NotOffered}
use Rattle.network.specs.Net.{at}
use Rattle.network.specs.Search.{is_at}
use Rattle.network.proofs.Tests.{clash}
use Rattle.slots.specs.Slots.{slot_at}
use Rattle.board.specs.declared.Board.{Board}
use Rattle.board.specs.Board.{GoodBoard, net_of}
use Rattle.board.specs.Layout.{layout_of}
use Rattle.trailer.specs.declared.Head.{Head}
use Rattle.table.specs.Queues.{empty_at, room_at, empties_at}
use Rattle.table.proofs.PacketLaws.{good_hops}
use Rattle.table.proofs.QueueLaws.{room_lowest, room_within}
use Rattle.judging.specs.Verdicts.{Verdict}
use Rattle.judging.specs.Moves.{lead_of, barred, blocked}
use Rattle.judging.specs.Verdicts.{into, ahead, move_verdict, Targets}
use Rattle.judging.proofs.NamedLaws.{targets}
use Rattle.judging.proofs.GrantedLaws.{Granted}
use Rattle.judging.proofs.VerdictLaws.{granted, is_ahead}

-- the slot lies in the table and is empty
module _ (b : Board) (t : List ℕ) (g : GoodBoard b) (here : Place) where
  into_room : (target : Place) → (net_of b).valid target.node ≡ true → (empty more : ℕ) (r : Option ℕ) → room_at b t target ≡ r → is_at r ≡ true
      → ((into r empty more).slot < (layout_of b).size) × (empty_at t (into r empty more).slot ≡ true)
  into_room target on empty more (Some j) e i = (room_within b t target j e g on, (room_lowest b t target j e).has)
  into_room target on empty more None e i = clash cc

  ahead_room : (lead : Lead) → Targets (net_of b) here lead → barred lead ≡ false → blocked b t here lead ≡ false → (ahead b t here lead).leaves ≡ false
      → ((ahead b t here lead).slot < (layout_of b).size) × (empty_at t (ahead b t here lead).slot ≡ true)
  unfolding ahead
  ahead_room (Hop n) v o f l = into_room (at n here.kind) v _ 1 _ refl (not-false _ f)
  ahead_room (Turn k) v o f l = into_room (at here.node k) v _ 0 _ refl (not-false _ f)
  ahead_room Out v o f l = clash cc
  ahead_room NotOffered v o f l = clash cc

-- at most one hop more
into_hops : (r : Option ℕ) (empty more : ℕ) → more ≤ 1 → (into r empty more).hops ≤ 1
into_hops (Some k) empty more l = l
into_hops None empty more l = omega arith

ahead_hops : (b : Board) (t : List ℕ) (here : Place) (lead : Lead) → (ahead b t here lead).hops ≤ 1
unfolding ahead
ahead_hops b t here (Hop n) = into_hops (room_at b t (at n here.kind)) (empties_at b t (at n here.kind)) 1 (omega arith)
ahead_hops b t here (Turn k) = into_hops (room_at b t (at here.node k)) (empties_at b t (at here.node k)) 0 (omega arith)
ahead_hops b t here Out = omega arith
ahead_hops b t here NotOffered = omega arith

module _ (h : Head) (t : List ℕ) (k code : ℕ) (v : Verdict) (e : v ≡ move_verdict h t k code) (z : v.number ≡ 0) (g : GoodBoard h.board) where
  abbrev here : Place
  here = (layout_of h.board).place_of k

  abbrev lead : Lead
  lead = lead_of h.board t k code

  grant : Granted h t k code
  grant = granted h t k code v e z

  goes : v ≡ ahead h.board t here lead
  goes = is_ahead h t k code v e z

  room : v.leaves ≡ false → (v.slot < (layout_of h.board).size) × (empty_at t v.slot ≡ true)
  room l =
      rw goes (ahead_room h.board t g here lead (targets grant.named g code) grant.offered grant.free
      (ap (λ (x : Verdict). x.leaves) (sym goes) ∙ l))

  pub target_within : v.leaves ≡ false → v.slot < (layout_of h.board).size
  target_within l = (room l).0

  pub target_apart : v.leaves ≡ false → k ≢ v.slot
  target_apart l q = let full = grant.named.held in let free = (room l).1 in clash (cc q)

  pub hops_fit : get_or (slot_at t k) 3 0 + v.hops < 256
  hops_fit =
      let most = good_hops h t k grant.named.good g grant.named.inside in
      rw goes (omega (arith, ahead_hops h.board t here lead))
