-- The six values of MR1.
-- Assumes nothing.
use Rattle.registers.specs.Reading.{values1}
use mathlib.Core.Path.{refl}
use Rattle.registers.proofs.taken_apart.values1.Goals as goal

pub returns : goal.returns
unfolding values1
returns c = refl
