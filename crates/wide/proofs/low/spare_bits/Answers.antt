-- A sum of two parts of the word.
-- Assumes nothing.
use mathlib.Core.Path.{refl}
use Rattle.wide.specs.Low.{spare_low}
use Rattle.wide.proofs.low.spare_bits.Goals as goal

pub returns : goal.returns
unfolding spare_low
returns c = refl
