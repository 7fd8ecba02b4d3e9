-- The fields of MR2 in their order.
-- Assumes nothing.
use Rattle.registers.specs.Allowed.{first_of, table2}
use Rattle.registers.proofs.permit.bad2.Goals as goal

pub returns : goal.returns
unfolding first_of table2
returns c = simp (c.or_bit.ensures, c.or_bit-from6.ensures, c.or_bit-from8.ensures, c.or_bit-from9.ensures, c.from11.ensures, c.cwl_for.ensures, c.wide.ensures, c.cwl.ensures)
