-- What a move's call does by the verdict on it: it refuses, hands the packet out, or carries it to the verdict's slot with its hops.
-- Assumes nothing.
use Rattle.std.specs.Prelude.{Option, Some, None}
use Prim.Native.Nat.{ℕ}
use mathlib.Core.Path.{◌≡◌, refl, sym, ap, ◌∙◌}
use mathlib.Core.Logic.{◌≢◌}
use mathlib.Core.Bool.{true, false, cond}
use mathlib.Core.List.{List}
use borrow.Author.Tests.{not-false}
use Rattle.network.specs.declared.Place.{Place}
use Rattle.network.specs.declared.Lead.{Lead}
use Rattle.network.specs.declared.Lead.TheVariants.{Hop, Turn, Out, NotOffered}
use Rattle.network.specs.Search.{is_at}
use Rattle.network.proofs.Tests.{clash, cond_true, cond_false}
use Rattle.slots.specs.Slots.{empty_slot}
use Rattle.board.specs.Layout.{layout_of}
use Rattle.trailer.specs.declared.Head.{Head}
use Rattle.table.specs.Queues.{room_at, empties_at}
use Rattle.table.specs.Carriage.{carried}
use Rattle.table.specs.Calls.{Outcome, outcome}
use Rattle.judging.specs.Moves.{lead_of, barred, blocked}
use Rattle.judging.specs.Verdicts.{Verdict, into, ahead, move_verdict}
use Rattle.judging.proofs.VerdictLaws.{verdict_due, none_due, granted, is_ahead}
use Rattle.router.specs.Move.{MoveAnswer, refusal, gone, handed_out, led_on, moved_in}
use Rattle.router.proofs.MoveLaws.{moved_refused, moved_granted}

-- the packet leaves, or goes to the verdict's slot with its hops
abbrev pub went_by : Head → List ℕ → ℕ → Verdict → Outcome MoveAnswer (List ℕ)
went_by h t k v = outcome record { number = 0; slot = v.slot; packet = empty_slot; left = v.left } (carried h.board t k v.slot v.hops)

abbrev done_by : Head → List ℕ → ℕ → Verdict → Outcome MoveAnswer (List ℕ)
done_by h t k v = cond v.leaves (handed_out h t k) (went_by h t k v)

module _ (h : Head) (t : List ℕ) (k : ℕ) where
  gone_by : (target : Place) (more : ℕ) (r : Option ℕ) → room_at h.board t target ≡ r → is_at r ≡ true
      → gone h t k target more ≡ done_by h t k (into r (empties_at h.board t target) more)
  unfolding gone
  gone_by target more (Some j) e i =
      rw e
  gone_by target more None e i = clash cc

  led_by : (here : Place) (lead : Lead) → barred lead ≡ false → blocked h.board t here lead ≡ false
      → led_on h t k here lead ≡ done_by h t k (ahead h.board t here lead)
  unfolding ahead
  led_by here (Hop n) o f = gone_by _ 1 _ refl (not-false _ f)
  led_by here (Turn l) o f = gone_by _ 0 _ refl (not-false _ f)
  led_by here Out o f = refl
  led_by here NotOffered o f = clash cc

module _ (h : Head) (t : List ℕ) (k code : ℕ) (v : Verdict) (e : v ≡ move_verdict h t k code) where
  pub verdict_refused : v.number ≢ 0 → moved_in h t k code ≡ outcome (refusal v.number) t
  verdict_refused u = moved_refused h t k code (sym (verdict_due h t k code v e)) u

  module _ (z : v.number ≡ 0) where
    verdict-done : moved_in h t k code ≡ done_by h t k v
    verdict-done =
        let g = granted h t k code v e z in
        moved_granted h t k code (none_due h t k code v e z)
        ∙ led_by h t k ((layout_of h.board).place_of k) (lead_of h.board t k code) g.offered g.free
        ∙ ap (done_by h t k) (sym (is_ahead h t k code v e z))

    pub verdict-out : v.leaves ≡ true → moved_in h t k code ≡ handed_out h t k
    verdict-out l = verdict-done ∙ cond_true _ _ l

    pub verdict_on : v.leaves ≡ false → moved_in h t k code ≡ went_by h t k v
    verdict_on l = verdict-done ∙ cond_false _ _ l
