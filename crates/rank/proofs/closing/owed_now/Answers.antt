-- The intervals that are left.
-- Assumes nothing.
use Rattle.rank.proofs.closing.owed_now.Goals as goal

pub returns : goal.returns
returns c = simp (c.since.ensures, c.begun.ensures, c.since-left.ensures, c.either.ensures)
