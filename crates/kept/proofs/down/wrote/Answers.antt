-- The check of a bank's latest WR.
-- Assumes nothing.
use Rattle.kept.proofs.down.wrote.Goals as goal

pub returns : goal.returns
returns c = simp (c.spaced.ensures, c.entry_write.ensures)
