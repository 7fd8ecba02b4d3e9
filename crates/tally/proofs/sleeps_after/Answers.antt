-- By CKE now, then before.
-- Assumes nothing.
use Rattle.tally.proofs.sleeps_after.Goals as goal

pub returns-then-level : goal.returns-then-level
returns-then-level c = rw (c.if-r.false, c.if-level.true)
