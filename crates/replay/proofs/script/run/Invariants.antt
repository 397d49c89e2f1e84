-- What is left is the script's end, and a command has a byte at least.
use Rattle.std.proofs.Common.{◌≤◌, length}
use Rattle.replay.proofs.script.run.Given as goal

abbrev pub invariant-loop-rest : goal.invariant-loop-rest
invariant-loop-rest g l = length l.rest ≤ length l.script

abbrev pub decreases-loop-rest : goal.decreases-loop-rest
decreases-loop-rest g l = length l.rest
