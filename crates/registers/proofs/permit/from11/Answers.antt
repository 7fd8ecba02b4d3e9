-- A11, A12, and those from A13 on.
-- Assumes nothing.
use Rattle.registers.specs.Allowed.{first_of}
use Rattle.registers.proofs.Zeros.{low11}
use Rattle.registers.proofs.permit.from11.Goals as goal

pub returns-then-code-lt2048 : goal.returns-then-code-lt2048
returns-then-code-lt2048 c = low11 _ c.if-code-lt2048.true

pub returns : goal.returns
unfolding first_of
returns c = simp (c.or_bit.ensures, c.or_bit-from12.ensures, c.from13.ensures)
