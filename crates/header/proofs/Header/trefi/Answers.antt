-- `trefi`: its time, rounded.
-- Assumes nothing.
use Rattle.header.proofs.Header.trefi.Goals as goal

pub returns : goal.returns
returns c = simp (c.greatest.ensures, c.choice-time.ensures)
