-- No record yet.
-- Assumes nothing.
use mathlib.Core.Path.{refl}
use Rattle.edges.specs.Ends.{fresh_acts}
use Rattle.still.proofs.opening.fresh_acts.Goals as goal

pub returns : goal.returns
unfolding fresh_acts
returns c = refl
