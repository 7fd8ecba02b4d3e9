-- A13, A14, A15.
-- Assumes nothing.
use Rattle.registers.specs.Allowed.{first_of}
use Rattle.registers.proofs.Zeros.{low13}
use Rattle.registers.proofs.permit.from13.Goals as goal

pub returns-then-code-lt8192 : goal.returns-then-code-lt8192
returns-then-code-lt8192 c = low13 _ c.if-code-lt8192.true

pub returns : goal.returns
unfolding first_of
returns c = simp (c.or_bit.ensures, c.or_bit-from14.ensures, c.or_bit-from15.ensures)
