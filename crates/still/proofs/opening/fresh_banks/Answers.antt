-- No record yet.
-- Assumes nothing.
use mathlib.Core.Path.{refl}
use Rattle.edges.specs.Ends.{fresh_banks}
use Rattle.still.proofs.opening.fresh_banks.Goals as goal

pub returns : goal.returns
unfolding fresh_banks
returns c = refl
