-- What a search of a queue has found so far.
-- Assumes nothing.
use Prim.Native.Nat.{ℕ, ◌-◌}
use mathlib.Core.Path.{◌≡◌}
use mathlib.Core.List.{List}
use Rattle.network.specs.Search.{lowest_with, count_with}
use Rattle.table.specs.Queues.{empty_at}
use Rattle.table.specs.declared.queues.QueueRoom.{QueueRoom}

-- those from slot k to the end
pub record Found (t : List ℕ) (k end : ℕ) (found : QueueRoom) : Type 0 where
  pub lowest : found.lowest ≡ lowest_with (empty_at t) k (end - k)
  pub empty : found.empty ≡ count_with (empty_at t) k (end - k)
