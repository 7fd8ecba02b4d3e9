-- The bytes counted, and the records looked at.
-- Assumes nothing.
use Rattle.moves.specs.Check.{over_of}
use Rattle.moves.proofs.Check.over.Goals as goal

pub returns : goal.returns
unfolding over_of
returns c = rw (c.wrapping_add_u64.ensures.value, c.seen_by-seen.ensures)
