-- A time is read from its place in the table.
-- Assumes nothing.
use Rattle.header.proofs.Times.{times, time-is}
use Rattle.header.proofs.bins.time.Goals as goal

pub returns : goal.returns
unfolding times
returns c =
    time-is c.args.bin c.row-at.result c.row-at.ensures.upper_bound c.row-at.ensures.value c.args.column c.requires
