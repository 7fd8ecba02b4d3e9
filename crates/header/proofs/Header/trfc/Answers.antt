-- `trfc`: its time, rounded.
-- Assumes nothing.
use Rattle.header.proofs.Header.trfc.Goals as goal

pub returns : goal.returns
returns c = simp (c.least.ensures, c.choice-time.ensures)
