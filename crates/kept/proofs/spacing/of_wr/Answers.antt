-- The rules that speak of the command.
-- Assumes nothing.
use Rattle.running.specs.Breaks.{spacings, waits}
use Rattle.kept.proofs.spacing.of_wr.Goals as goal

pub returns : goal.returns
unfolding spacings waits
returns c = simp (c.spaced.ensures, c.spaced-b12.ensures, c.needing.ensures, c.wrote_mark.ensures, c.spaced-b13.ensures, c.read_mark.ensures, c.waits-b15.ensures)
