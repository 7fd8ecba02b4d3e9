-- The rules that speak of the command.
-- Assumes nothing.
use Rattle.running.specs.Breaks.{spacings, waits}
use Rattle.kept.proofs.spacing.of_act.Goals as goal

pub returns : goal.returns
unfolding spacings waits
returns c = simp (c.spaced.ensures, c.spaced-b6.ensures, c.needing-3.ensures, c.spaced-b7.ensures, c.needing-2.ensures, c.spaced-b8.ensures, c.needing.ensures, c.waits-b15.ensures)
