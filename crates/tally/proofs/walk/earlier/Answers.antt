-- The record counts where its edge is before the limit.
-- Assumes nothing.
use Rattle.std.proofs.Common.{le-ltb, lt-ltb}
use Rattle.tally.proofs.walk.earlier.Goals as goal

pub returns-then-edge-limit : goal.returns-then-edge-limit
returns-then-edge-limit c = rw (lt-ltb _ _ c.if-edge-limit.true)

pub returns : goal.returns
returns c = rw (le-ltb _ _ c.if-edge-limit.false)
