-- Four rules, the lowest first.
-- Assumes nothing.
use Rattle.running.specs.Breaks.{waits}
use Rattle.kept.proofs.spacing.waits.Goals as goal

pub returns : goal.returns
unfolding waits
returns c = simp (c.spaced.ensures, c.spaced-b17.ensures, c.needing.ensures, c.spaced-b18.ensures, c.spaced-b21.ensures)
