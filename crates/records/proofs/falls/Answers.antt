-- A fall of CKE.
-- Assumes nothing.
use borrow.Author.Tests.{eq-eqb, ne_eqb, le-leb, lt-leb}
use Rattle.records.specs.Command.{falling}
use Rattle.records.proofs.falls.Goals as goal

pub returns-then-pins-eq1 : goal.returns-then-pins-eq1
unfolding falling
returns-then-pins-eq1 c = rw (eq-eqb _ _ c.if-pins-eq1.true)

pub returns-then-pins-ge7 : goal.returns-then-pins-ge7
unfolding falling
returns-then-pins-ge7 c = rw (ne_eqb _ _ c.if-pins-eq1.false, le-leb _ _ c.if-pins-ge7.true)

pub returns : goal.returns
unfolding falling
returns c = rw (ne_eqb _ _ c.if-pins-eq1.false, lt-leb _ _ c.if-pins-ge7.false)
