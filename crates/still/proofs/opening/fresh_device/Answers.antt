-- No record yet.
-- Assumes nothing.
use mathlib.Core.Path.{refl}
use Rattle.edges.specs.Ends.{fresh_device}
use Rattle.still.proofs.opening.fresh_device.Goals as goal

pub returns : goal.returns
unfolding fresh_device
returns c = refl
