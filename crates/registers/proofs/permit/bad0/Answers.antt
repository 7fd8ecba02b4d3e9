-- The fields of MR0 in their order.
-- Assumes nothing.
use Rattle.registers.specs.Allowed.{first_of, table0}
use native.Mathlib.Nat.{div-one}
use Rattle.registers.proofs.permit.bad0.Goals as goal

pub returns : goal.returns
unfolding first_of table0
returns c = simp (c.or_bit.ensures, c.or_bit-from2.ensures, c.cl_fits.ensures, c.cl.ensures, c.or_bit-from7.ensures, c.or_bit-from9.ensures, c.from13.ensures, c.wide.ensures, c.wr.ensures, c.twr.ensures, div-one)
