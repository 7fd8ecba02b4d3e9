-- The six values of MR0.
-- Assumes nothing.
use Rattle.registers.specs.Reading.{values0}
use native.Mathlib.Nat.{div-one}
use Rattle.registers.proofs.taken_apart.values0.Goals as goal

pub returns : goal.returns
unfolding values0
returns c = simp (div-one, c.wr.ensures, c.cl.ensures)
