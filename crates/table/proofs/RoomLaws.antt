-- What leaving a slot, and carrying a packet from slot to slot, do to the number of empty slots in a queue.
-- Assumes nothing.
use Prim.Native.Nat.{ℕ, suc, ◌+◌, ◌*◌, ◌≤◌, ◌<◌}
use mathlib.Core.Path.{◌≡◌, refl, sym, ap, ◌∙◌}
use mathlib.Core.Logic.{◌≢◌}
use mathlib.Core.Bool.{true, false}
use mathlib.Core.List.{List}
use lib.ListN.{length}
use Rattle.network.specs.declared.Place.{Place}
use Rattle.slots.specs.Slots.{slot_at, zeros}
use Rattle.board.specs.declared.Board.{Board}
use Rattle.board.specs.Board.{net_of}
use Rattle.board.specs.Layout.{layout_of, Sized}
use Rattle.board.proofs.BoardLaws.{layout_laws, slot_fits}
use Rattle.table.specs.Queues.{empty_at, empties_at}
use Rattle.table.specs.Carriage.{hop, vacated, carried}
use Rattle.table.proofs.QueueLaws.{empties_more}
use Rattle.table.proofs.CarriageLaws.{vacated_there, vacated_other, carried_to, carried_other}

module _ (b : Board) (t : List ℕ) (z : Sized b t) (k : ℕ) (inside : k < (layout_of b).size) where
  fits : 16 * k + 16 ≤ length t
  fits = slot_fits z k inside

  -- the queue that a packet leaves has one empty slot more
  pub vacated_room : empty_at t k ≡ false → empties_at b (vacated b t k) ((layout_of b).place_of k) ≡ suc (empties_at b t ((layout_of b).place_of k))
  vacated_room held =
      empties_more b z.board ((layout_of b).place_of k) ((layout_laws b z.board).on_net k inside) t (vacated b t k) k inside refl held
      (ap zeros (vacated_there b t k fits))
      (λ i l p u. sym (vacated_other b t k fits i u))

  -- another queue that it is carried into, to slot j, has one fewer
  pub carried_room : (j more : ℕ) → j < (layout_of b).size → (target : Place) → (net_of b).valid target.node ≡ true → (layout_of b).place_of j ≡ target
      → (layout_of b).place_of k ≢ target → empty_at t j ≡ true → zeros (hop (slot_at t k) more) ≡ false
      → empties_at b t target ≡ suc (empties_at b (carried b t k j more) target)
  carried_room j more within target on there elsewhere free held =
      let to_fits = slot_fits z j within in
      empties_more b z.board target on (carried b t k j more) t j within there (ap zeros (carried_to b t k j more fits to_fits) ∙ held) free
      (λ i l p u. carried_other b t k j more fits to_fits i (λ q. elsewhere (ap (layout_of b).place_of (sym q) ∙ p)) u)
