-- After k turns the first k slots of the buffer are the copy's.
use mathlib.Core.Path.{◌≡◌}
use lib.ListN.{length}
use Rattle.survey.proofs.ShownLaws.{Shown}
use Rattle.survey.proofs.copying.veil.Given as goal

abbrev pub invariant-loop-k : goal.invariant-loop-k
invariant-loop-k l = (length l.out ≡ length l.t.bytes.now) × Shown l.t.bytes.now l.out l.k
