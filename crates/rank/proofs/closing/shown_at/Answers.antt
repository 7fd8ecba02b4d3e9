-- The status, as it is answered.
-- Assumes nothing.
use Rattle.rank.proofs.closing.shown_at.Goals as goal

pub returns : goal.returns
returns c = simp (c.show.ensures, c.status.ensures)
