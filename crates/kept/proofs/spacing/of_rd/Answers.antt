-- The rules that speak of the command.
-- Assumes nothing.
use Rattle.running.specs.Breaks.{spacings, waits}
use Rattle.kept.proofs.spacing.of_rd.Goals as goal

pub returns : goal.returns
unfolding spacings waits
returns c = simp (c.spaced.ensures, c.spaced-b12.ensures, c.needing-2.ensures, c.read_mark.ensures, c.spaced-b14.ensures, c.wrote_mark.ensures, c.spaced-b15.ensures, c.spaced-b17.ensures, c.needing.ensures, c.spaced-b18.ensures, c.spaced-b20.ensures, c.spaced-b21.ensures)
