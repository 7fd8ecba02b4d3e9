-- The fields of MR1 in their order.
-- Assumes nothing.
use Rattle.registers.specs.Allowed.{first_of, table1}
use native.Mathlib.Nat.{div-one}
use Rattle.registers.proofs.permit.bad1.Goals as goal

pub returns : goal.returns
unfolding first_of table1
returns c = simp (c.or_bit.ensures, c.or_bit-from2.ensures, c.or_bit-from3.ensures, c.or_bit-from5.ensures, c.or_bit-from7.ensures, c.or_bit-from8.ensures, c.or_bit-from10.ensures, c.or_bit-from11.ensures, c.from13.ensures, div-one)
