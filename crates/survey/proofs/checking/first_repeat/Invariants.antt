-- What is left to search decides, and the flags tell of the slots passed.
use Prim.Native.Nat.{◌-◌}
use mathlib.Core.Path.{◌≡◌}
use Rattle.network.specs.Search.{lowest_with}
use Rattle.survey.specs.Check.{repeats_at}
use Rattle.survey.specs.Met.{Met}
use Rattle.survey.proofs.checking.first_repeat.Given as goal

abbrev pub invariant-loop-k : goal.invariant-loop-k
invariant-loop-k l =
    let t = l.t.bytes.now in
    Met t l.flags l.k × (lowest_with (repeats_at t) 0 l.n ≡ lowest_with (repeats_at t) l.k (l.n - l.k))
