-- `tcke`: its time, rounded.
-- Assumes nothing.
use Rattle.header.proofs.Header.tcke.Goals as goal

pub returns : goal.returns
returns c = simp (c.least_or.ensures, c.time-time.ensures)
