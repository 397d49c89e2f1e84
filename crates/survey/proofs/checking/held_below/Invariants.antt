-- The count is that of the slots passed.
use Prim.Native.Nat.{◌≤◌}
use mathlib.Core.Path.{◌≡◌}
use Rattle.table.specs.Held.{held_below}
use Rattle.survey.proofs.checking.held_below.Given as goal

abbrev pub invariant-loop-k : goal.invariant-loop-k
invariant-loop-k l = (l.count ≤ l.k) × (l.count ≡ held_below l.t l.k)
