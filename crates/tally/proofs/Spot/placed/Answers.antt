-- The record, at the walk's file and byte.
-- Assumes nothing.
use Rattle.tally.specs.Places.{placed_of}
use Rattle.tally.proofs.Spot.placed.Goals as goal

pub returns : goal.returns
unfolding placed_of
returns c = rw c.found.ensures
