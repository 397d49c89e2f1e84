-- Exact effects, one after the other.
use Prim.Native.Nat.{ℕ}
use mathlib.Core.Path.{ap, ◌∙◌}
use mathlib.Core.List.{List}
use Rattle.slots.proofs.SlotLaws.{length-slot_at, slot_at_same}
use Rattle.table.specs.Carriage.{vacated}
use Rattle.table.proofs.CarriageLaws.{carried_straight}
use Rattle.table.proofs.carriage.carry.Goals as goal

pub add_hops-requires-clause-more_bound : goal.add_hops-requires-clause-more_bound
add_hops-requires-clause-more_bound c =
    let a = c.args in
    rw (c.copy_slot.ensures, slot_at_same a.t.now a.to c.requires.to_in_bounds _ (length-slot_at a.t.now a.from c.requires.from_in_bounds)) c.requires.more_bound

pub returns : goal.returns
returns c =
    let a = c.args in
    c.leave.ensures
    ∙ ap (λ (l : List ℕ). vacated a.b l a.from) c.add_hops.ensures
    ∙ carried_straight a.b a.t.now a.from a.to a.more c.requires.from_in_bounds c.requires.to_in_bounds c.requires.apart _ c.copy_slot.ensures
