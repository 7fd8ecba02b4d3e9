-- A least period is read from its place in the table.
-- Assumes nothing.
use Rattle.header.proofs.Times.{leasts, least-is}
use Rattle.header.proofs.bins.least.Goals as goal

pub returns : goal.returns
unfolding leasts
returns c = least-is c.args.bin c.row-at.result c.row-at.ensures.upper_bound c.row-at.ensures.value
