-- The rules that speak of the command.
-- Assumes nothing.
use Rattle.running.specs.Breaks.{spacings, waits}
use Rattle.kept.proofs.spacing.of_ref.Goals as goal

pub returns : goal.returns
unfolding spacings waits
returns c = simp (c.spaced.ensures, c.waits-b15.ensures)
