-- Asleep or not.
-- Assumes nothing.
use Rattle.rank.proofs.deadlines.next25.Goals as goal

pub returns : goal.returns
returns c = simp c.either.ensures
