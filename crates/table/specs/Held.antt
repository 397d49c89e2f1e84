-- Which slots of a table hold a packet, and how many do.
-- Assumes nothing.
use Rattle.std.specs.Prelude.{ℕ, zero, suc, ◌+◌, List, Bool, not, cond}
use Rattle.table.specs.Queues.{empty_at}

abbrev pub held_at : List ℕ → ℕ → Bool
held_at t k = not (empty_at t k)

-- how many slots below n are held
abbrev pub held_below : List ℕ → ℕ → ℕ
held_below t zero = 0
held_below t (suc n) = cond (held_at t n) 1 0 + held_below t n
