-- A move that is granted does where the rule leads, and else the call refuses with the number that is due.
-- Assumes nothing.
use Prim.Native.Nat.{ℕ}
use mathlib.Core.Path.{◌≡◌, refl}
use mathlib.Core.Logic.{◌≢◌}
use mathlib.Core.Bool.{false}
use mathlib.Core.List.{List}
use Rattle.network.specs.declared.Lead.{Lead}
use Rattle.network.specs.declared.Lead.TheVariants.{Hop, Turn, Out, NotOffered}
use Rattle.network.proofs.Tests.{clash}
use Rattle.board.specs.Layout.{layout_of}
use Rattle.trailer.specs.declared.Head.{Head}
use Rattle.table.specs.Calls.{Outcome, outcome}
use Rattle.table.proofs.CallLaws.{answered-done, answered_refused, answered-number}
use Rattle.judging.specs.Moves.{lead_of, barred, move_rows, move_due}
use Rattle.judging.proofs.GrantedLaws.{due_granted}
use Rattle.router.specs.Move.{MoveAnswer, refusal, gone, handed_out, led_on, moved_in}

module _ (h : Head) (t : List ℕ) (k code : ℕ) where
  abbrev done : Outcome MoveAnswer (List ℕ)
  done = led_on h t k ((layout_of h.board).place_of k) (lead_of h.board t k code)

  pub moved_refused : {n : ℕ} → move_due h t k code ≡ n → n ≢ 0 → moved_in h t k code ≡ outcome (refusal n) t
  unfolding moved_in move_due
  moved_refused e u = answered_refused (move_rows h t k code) refusal t done e u

  pub moved_granted : move_due h t k code ≡ 0 → moved_in h t k code ≡ done
  unfolding moved_in move_due
  moved_granted e = answered-done (move_rows h t k code) refusal t done e

  -- the answer's number is the one that is due
  pub moved_number : (moved_in h t k code).answer.number ≡ move_due h t k code
  unfolding moved_in move_due gone handed_out
  moved_number =
      answered-number (λ a. a.number) refusal (λ n. refl) (move_rows h t k code) t done (λ e. by (lead_of h.board t k code) (due_granted h t k code e).offered)
    where
      by : (lead : Lead) → barred lead ≡ false → (led_on h t k ((layout_of h.board).place_of k) lead).answer.number ≡ 0
      by (Hop n) e = refl
      by (Turn l) e = refl
      by Out e = refl
      by NotOffered e = clash cc
