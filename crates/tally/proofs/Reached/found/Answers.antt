-- The record, and the walk up to it.
-- Assumes nothing.
use Rattle.tally.specs.Walk.{found_of}
use Rattle.tally.proofs.Reached.found.Goals as goal

pub returns : goal.returns
unfolding found_of
returns c = rw (c.next-n.ensures, c.kind_at.ensures.0)
