-- When a packet is taken in, into which slot, and the verdict on it.
-- Assumes nothing.
use Rattle.std.specs.Prelude.{Option, Some}
use Prim.Native.Nat.{ℕ, ◌<◌}
use mathlib.Core.Path.{◌≡◌, refl, sym, ap, ◌∙◌}
use mathlib.Core.Logic.{◌≢◌}
use mathlib.Core.Bool.{true, not}
use mathlib.Core.List.{List}
use native.Mathlib.Decide.{ℕ_discrete}
use borrow.Author.Tests.{eqb-false, eq-eqb, not-false}
use Rattle.network.specs.declared.Kind.TheVariants.{Waiting}
use Rattle.network.specs.Net.{at}
use Rattle.network.specs.Search.{is_at, number_at}
use Rattle.network.proofs.Tests.{cond_true, cond_false}
use Rattle.network.proofs.SearchLaws.{at_some}
use Rattle.board.specs.Board.{GoodBoard, net_of}
use Rattle.board.specs.Layout.{layout_of}
use Rattle.trailer.specs.declared.Head.{Head}
use Rattle.table.specs.Refusals.{first_due}
use Rattle.table.proofs.QueueLaws.{room_within}
use Rattle.table.proofs.RefusalLaws.{passed, accepted_by, refused_by_lem}
use Rattle.judging.specs.Verdicts.{Verdict}
use Rattle.judging.specs.Takings.{waiting_room, waiting_empties, take_rows}
use Rattle.judging.specs.Verdicts.{refused_by, into, take_verdict}

-- the packet is taken in
pub record Welcome (h : Head) (t : List ℕ) (source destination : ℕ) : Type 0 where
  pub source_on : (net_of h.board).valid source ≡ true
  pub destination_on : (net_of h.board).valid destination ≡ true
  pub more : h.taken ≢ 4294967295
  pub room : is_at (waiting_room h t source) ≡ true

module _ (h : Head) (t : List ℕ) (source destination : ℕ) where
  abbrev pub take_due : ℕ
  take_due = first_due (take_rows h t source destination)

  -- where all serials are given out the answer is 7, whatever the waiting slot holds
  pub all_given_out : (net_of h.board).valid source ≡ true → (net_of h.board).valid destination ≡ true → h.taken ≡ 4294967295 → take_due ≡ 7
  all_given_out on to e = cond_false _ _ (ap not on) ∙ cond_false _ _ (ap not to) ∙ cond_true _ _ (eq-eqb _ _ e)

  pub due_welcome : take_due ≡ 0 → Welcome h t source destination
  due_welcome e =
      let a = passed 1 _ _ e in
      let b = passed 1 _ _ a.1 in
      let c = passed 6 _ _ b.1 in
      let d = passed 5 _ _ c.1 in
      record { source_on = not-false _ a.0; destination_on = not-false _ b.0; more = eqb-false _ _ c.0; room = not-false _ d.0 }

  module _ (w : Welcome h t source destination) where
    -- the source's waiting slot
    abbrev pub berth : ℕ
    berth = number_at (waiting_room h t source)

    pub berth_room : waiting_room h t source ≡ Some berth
    berth_room = at_some _ w.room

    pub berth_within : GoodBoard h.board → berth < (layout_of h.board).size
    berth_within g = room_within h.board t (at source Waiting) berth berth_room g w.source_on

  -- ---- the verdict

  pub take_refuses : {n : ℕ} → take_due ≡ n → n ≢ 0 → take_verdict h t source destination ≡ refused_by n
  unfolding take_verdict
  take_refuses e u = refused_by_lem _ _ (λ z. u (sym e ∙ z)) ∙ ap refused_by e

  module _ (v : Verdict) (e : v ≡ take_verdict h t source destination) where
    -- where nothing is due, into the waiting slot
    pub take_done : take_due ≡ 0 → v ≡ into (Some (number_at (waiting_room h t source))) (waiting_empties h t source) 0
    unfolding take_verdict
    take_done z =
        e ∙ accepted_by _ _ z ∙ ap (λ (r : Option ℕ). into r (waiting_empties h t source) 0) (at_some (waiting_room h t source) (due_welcome z).room)

    pub take-number : v.number ≡ take_due
    take-number = elim (ℕ_discrete take_due 0) [
      | yes z ↦ ap (λ (x : Verdict). x.number) (take_done z) ∙ sym z
      | no z ↦ ap (λ (x : Verdict). x.number) (e ∙ take_refuses refl z)
    ]
