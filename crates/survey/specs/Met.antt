-- When flags tell of the serials below a slot: how the search for a repeated serial is made quick. No call is defined by it: a reader may pass
-- over this file.
-- Assumes nothing.
use Rattle.std.specs.Prelude.{ℕ, ◌%◌, ◌<◌, ◌≡◌, List, true, length, get_or}
use Rattle.table.specs.Held.{held_at}
use Rattle.filter.specs.Flags.{flag_at}
use Rattle.survey.specs.Check.{serial_at}

-- 512 bytes in which the serial, modulo 4,096, of every held slot below k has its flag up
pub record Met (t flags : List ℕ) (k : ℕ) : Type 0 where
  pub full : length flags ≡ 512
  pub bytes : (i : ℕ) → get_or flags i 0 < 256
  pub up : (j : ℕ) → j < k → held_at t j ≡ true → flag_at flags (serial_at t j % 4096) ≡ true
