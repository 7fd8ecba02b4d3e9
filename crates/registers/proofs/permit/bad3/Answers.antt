-- The sixteen bits of MR3.
-- Assumes nothing.
use Rattle.registers.specs.Allowed.{first_of, table3}
use native.Mathlib.Nat.{div-one}
use Rattle.registers.proofs.Zeros.{all-zero}
use Rattle.registers.proofs.permit.bad3.Goals as goal

pub returns-then-code-eq0 : goal.returns-then-code-eq0
returns-then-code-eq0 c = all-zero _ c.if-code-eq0.true

pub returns : goal.returns
unfolding first_of table3
returns c = simp (c.or_bit.ensures, c.or_bit-from1.ensures, c.or_bit-from2.ensures, c.or_bit-from3.ensures, c.or_bit-from4.ensures, c.or_bit-from5.ensures, c.or_bit-from6.ensures, c.or_bit-from7.ensures, c.or_bit-from8.ensures, c.or_bit-from9.ensures, c.or_bit-from10.ensures, c.from11.ensures, div-one)
