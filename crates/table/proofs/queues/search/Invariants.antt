-- What is found so far is what the slots from k on have.
use Prim.Native.Nat.{◌≤◌, ◌+◌}
use Rattle.table.proofs.Searched.{Found}
use Rattle.table.proofs.queues.search.Given as goal

abbrev pub invariant-loop-k : goal.invariant-loop-k
invariant-loop-k l = (l.from ≤ l.k) × Found l.t l.k (l.from + l.count) l.found
