-- Document 01's cases marked P hold, and those of orders 2 and 3: one equation over their table, which antt computes.
-- Assumes nothing.
use mathlib.Core.Path.{◌≡◌, refl}
use mathlib.Core.List.{map}
use Rattle.promises.specs.Cases.{Case, answer, table}
use Rattle.promises.proofs.Computing.{calls}

pub cases_hold : map (λ (c : Case). answer c.asked) table ≡ map (λ (c : Case). c.right) table
unfolding calls
cases_hold = refl
