-- The flag is one bit of one byte, which stays a byte.
use Rattle.filter.specs.Flags.{raised}
use Rattle.filter.proofs.raise.Goals as goal

pub returns : goal.returns
unfolding raised
returns c = rw c.weight_of.ensures
