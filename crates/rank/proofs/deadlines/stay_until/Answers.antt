-- In power-down or not.
-- Assumes nothing.
use Rattle.rank.proofs.deadlines.stay_until.Goals as goal

pub returns-then-level-sleeps : goal.returns-then-level-sleeps
returns-then-level-sleeps c = simp c.if-level-sleeps.true

pub returns : goal.returns
returns c = simp c.if-level-sleeps.false
