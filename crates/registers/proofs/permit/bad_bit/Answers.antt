-- By the register's number.
-- Assumes nothing.
use Rattle.registers.specs.Allowed.{fields_in, bit_of}
use borrow.Author.Tests.{eq-eqb, ne_eqb, lt-ltb, le-ltb}
use Rattle.registers.proofs.permit.bad_bit.Goals as goal

pub returns-then-number-gt3 : goal.returns-then-number-gt3
unfolding bit_of
returns-then-number-gt3 c = simp (lt-ltb _ _ c.if-number-gt3.true)

pub returns-then-number-eq0 : goal.returns-then-number-eq0
unfolding bit_of fields_in
returns-then-number-eq0 c = simp (c.bad0.ensures, eq-eqb _ _ c.if-number-eq0.true, le-ltb _ _ c.if-number-gt3.false)

pub returns-then-number-eq1 : goal.returns-then-number-eq1
unfolding bit_of fields_in
returns-then-number-eq1 c = simp (c.bad1.ensures, eq-eqb _ _ c.if-number-eq1.true, ne_eqb _ _ c.if-number-eq0.false, le-ltb _ _ c.if-number-gt3.false)

pub returns-then-number-eq2 : goal.returns-then-number-eq2
unfolding bit_of fields_in
returns-then-number-eq2 c = simp (c.bad2.ensures, eq-eqb _ _ c.if-number-eq2.true, ne_eqb _ _ c.if-number-eq1.false, ne_eqb _ _ c.if-number-eq0.false, le-ltb _ _ c.if-number-gt3.false)

pub returns : goal.returns
unfolding bit_of fields_in
returns c = simp (c.bad3.ensures, ne_eqb _ _ c.if-number-eq2.false, ne_eqb _ _ c.if-number-eq1.false, ne_eqb _ _ c.if-number-eq0.false, le-ltb _ _ c.if-number-gt3.false)
