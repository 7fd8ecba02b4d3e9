-- No record yet.
-- Assumes nothing.
use mathlib.Core.Path.{refl}
use Rattle.edges.specs.Ends.{fresh_waits}
use Rattle.still.proofs.opening.fresh_waits.Goals as goal

pub returns : goal.returns
unfolding fresh_waits
returns c = refl
