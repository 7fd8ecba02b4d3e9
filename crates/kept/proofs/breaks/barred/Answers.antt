-- What the command wants, of the bank's status.
-- Assumes nothing.
use Rattle.kept.proofs.breaks.barred.Goals as goal

pub returns : goal.returns
returns c = simp (← c.barred_by.ensures, ← c.status.ensures, ← c.wants.ensures)
