-- By the register's number.
-- Assumes nothing.
use Rattle.registers.specs.Reading.{values_of}
use borrow.Author.Tests.{eq-eqb, ne_eqb}
use Rattle.registers.proofs.taken_apart.values_of.Goals as goal

pub returns-then-number-eq0 : goal.returns-then-number-eq0
unfolding values_of
returns-then-number-eq0 c = simp (c.values0.ensures, eq-eqb _ _ c.if-number-eq0.true)

pub returns-then-number-eq1 : goal.returns-then-number-eq1
unfolding values_of
returns-then-number-eq1 c = simp (c.values1.ensures, eq-eqb _ _ c.if-number-eq1.true, ne_eqb _ _ c.if-number-eq0.false)

pub returns-then-number-eq2 : goal.returns-then-number-eq2
unfolding values_of
returns-then-number-eq2 c = simp (c.values2.ensures, eq-eqb _ _ c.if-number-eq2.true, ne_eqb _ _ c.if-number-eq1.false, ne_eqb _ _ c.if-number-eq0.false)

pub returns : goal.returns
unfolding values_of
returns c = simp (ne_eqb _ _ c.if-number-eq2.false, ne_eqb _ _ c.if-number-eq1.false, ne_eqb _ _ c.if-number-eq0.false)
