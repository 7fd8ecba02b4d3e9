-- Before the first record, and before the first file.
-- Assumes nothing.
use Rattle.tally.proofs.Spot.start.Goals as goal

pub returns : goal.returns
returns c = rw c.start.ensures
