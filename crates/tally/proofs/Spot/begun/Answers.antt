-- A file more, at its first record.
-- Assumes nothing.
use Rattle.tally.specs.Places.{begun_of}
use Rattle.tally.proofs.Spot.begun.Goals as goal

pub returns : goal.returns
unfolding begun_of
returns c = rw (c.skipped.ensures, c.wrapping_add_u64.ensures.value)
