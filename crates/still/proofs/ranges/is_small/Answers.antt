-- One count after the other.
-- Assumes nothing.
use Rattle.running.specs.Ranges.{is_small}
use mathlib.Core.Path.{refl}
use Rattle.still.proofs.ranges.is_small.Goals as goal

pub returns : goal.returns
unfolding is_small
returns c = refl
