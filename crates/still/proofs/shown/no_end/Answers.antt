-- All zero.
-- Assumes nothing.
use Rattle.running.specs.Ends.{no_end}
use Rattle.still.proofs.shown.no_end.Goals as goal

pub returns : goal.returns
unfolding no_end
returns c = simp c.none.ensures
