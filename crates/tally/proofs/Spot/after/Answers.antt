-- A record more, six bytes on.
-- Assumes nothing.
use Rattle.tally.specs.Places.{after_of}
use Rattle.tally.proofs.Spot.after.Goals as goal

pub returns : goal.returns
unfolding after_of
returns c = rw (c.wrapping_add_u64.ensures.value, c.next.ensures)
