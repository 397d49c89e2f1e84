-- What is left to search decides, and the code found for a slot is its lowest.
use Prim.Native.Nat.{◌-◌}
use mathlib.Core.Path.{◌≡◌}
use Rattle.network.specs.Search.{lowest_with}
use Rattle.survey.specs.Find.{movable, move_at, found_in}
use Rattle.survey.proofs.finding.first_move.Given as goal

abbrev pub invariant-loop-slot : goal.invariant-loop-slot
invariant-loop-slot l =
    let h = l.t.head in
    let t = l.t.bytes.now in
    found_in h t ≡ move_at h t (lowest_with (movable h t) l.slot (l.n - l.slot))
