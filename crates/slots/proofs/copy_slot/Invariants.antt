-- After i turns slot `to` has the first i bytes of slot `from`, and then its own.
use Rattle.std.proofs.Common.{◌≡◌, ◌≤◌}
use Rattle.slots.proofs.CopyLaws.{copied}
use Rattle.slots.proofs.copy_slot.Given as goal

abbrev pub invariant-loop-i : goal.invariant-loop-i
invariant-loop-i l = (l.i ≤ 16) × (l.t ≡ copied l.fn.t l.from l.to l.i)
