-- A record more.
-- Assumes nothing.
use Rattle.tally.specs.Walk.{next_of}
use Rattle.tally.proofs.Reached.next.Goals as goal

pub returns : goal.returns
unfolding next_of
returns c =
    rw (c.earlier.ensures, c.sleeps_after.ensures, c.wrapping_add_u64-edge.ensures.value, c.wrapping_add_u64-number.ensures.value)
