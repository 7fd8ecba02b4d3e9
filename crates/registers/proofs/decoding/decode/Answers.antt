-- Allowed where no bit is named.
-- Assumes nothing.
use Rattle.std.proofs.Common.{sym}
use mathlib.Core.Path.{◌∙◌}
use Rattle.registers.specs.Reading.{decoded_of}
use Rattle.registers.proofs.Lowest.{none-allowed, some-bad}
use Rattle.registers.proofs.decoding.decode.Goals as goal

pub returns-in-None : goal.returns-in-None
unfolding decoded_of
returns-in-None c = simp (c.values_of.ensures, none-allowed _ _ _ (sym c.bad_bit.ensures ∙ c.in-None.is))

pub returns-in-Some : goal.returns-in-Some
unfolding decoded_of
returns-in-Some c = let b = some-bad _ _ _ _ (sym c.bad_bit.ensures ∙ c.in-Some.is) in simp (b.0, b.1)
