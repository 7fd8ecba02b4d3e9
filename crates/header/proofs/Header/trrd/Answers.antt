-- `trrd`: its time, rounded.
-- Assumes nothing.
use Rattle.header.proofs.Header.trrd.Goals as goal

pub returns : goal.returns
returns c = simp (c.least_or.ensures, c.paged-time.ensures)
