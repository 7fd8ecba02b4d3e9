-- The edge at which the stay is too long.
-- Assumes nothing.
use Rattle.rank.proofs.deadlines.next28.Goals as goal

pub returns : goal.returns
returns c = simp (c.late_by.ensures, c.stay_until.ensures)
