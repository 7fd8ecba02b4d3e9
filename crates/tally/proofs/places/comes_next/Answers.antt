-- One more than the number of those before it.
-- Assumes nothing.
use Rattle.tally.proofs.places.comes_next.Goals as goal

pub returns : goal.returns
returns c = rw c.wrapping_add_u64.ensures.value
