-- `mostras`: its time, rounded.
-- Assumes nothing.
use Rattle.header.proofs.Header.mostras.Goals as goal

pub returns : goal.returns
returns c = simp (c.greatest.ensures, c.choice-time.ensures)
