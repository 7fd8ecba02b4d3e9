-- Asleep or not.
-- Assumes nothing.
use Rattle.rank.proofs.deadlines.next31.Goals as goal

pub returns : goal.returns
returns c = simp (c.late_by.ensures, c.either.ensures)
