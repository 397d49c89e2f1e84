-- `filter::flag` meets its contract: the byte is divided by the bit's weight, as the definition says.
-- Assumes nothing.
use Rattle.filter.specs.Flags.{flag_at}
use Rattle.filter.proofs.flag.Goals as goal

pub returns : goal.returns
unfolding flag_at
returns c = rw c.weight_of.ensures
