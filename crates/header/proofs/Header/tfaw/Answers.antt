-- `tfaw`: its time, rounded.
-- Assumes nothing.
use Rattle.header.proofs.Header.tfaw.Goals as goal

pub returns : goal.returns
returns c = simp (c.least.ensures, c.paged-time.ensures)
