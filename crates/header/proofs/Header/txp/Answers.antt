-- `txp`: its time by the bin, rounded.
-- Assumes nothing.
use Rattle.header.proofs.Header.txp.Goals as goal

pub returns : goal.returns
returns c = simp (c.least_or.ensures, c.choice-time.ensures, c.row.ensures.value)
