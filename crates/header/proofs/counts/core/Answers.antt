-- A time of the row, rounded.
-- Assumes nothing.
use Rattle.header.proofs.counts.core.Goals as goal

pub returns : goal.returns
returns c = simp (c.least.ensures, c.time-time.ensures)
