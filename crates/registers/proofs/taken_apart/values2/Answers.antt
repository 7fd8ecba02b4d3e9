-- The six values of MR2.
-- Assumes nothing.
use Rattle.registers.specs.Reading.{values2}
use native.Mathlib.Nat.{div-one}
use Rattle.registers.proofs.taken_apart.values2.Goals as goal

pub returns : goal.returns
unfolding values2
returns c = simp (div-one, c.cwl.ensures)
