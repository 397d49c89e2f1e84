-- The byte stored is byte 3 of the slot.
use mathlib.Core.Path.{◌∙◌}
use native.Mathlib.Omega.{arith}
use Rattle.slots.proofs.SlotLaws.{get_or-slot_at, set_slot}
use Rattle.table.proofs.carriage.add_hops.Goals as goal

pub overflow_add-t : goal.overflow_add-t
overflow_add-t c =
    let a = c.args in
    let e = get_or-slot_at a.t.now a.k 3 (omega arith) in
    omega arith

pub returns : goal.returns
returns c =
    let a = c.args in
    set_slot a.t.now a.k c.requires.k_in_bounds 3 _ (omega arith) ∙ rw (get_or-slot_at a.t.now a.k 3 (omega arith))
