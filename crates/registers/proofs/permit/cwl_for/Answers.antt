-- The periods from the longest down.
-- Assumes nothing.
use Rattle.registers.specs.Allowed.{cwl_for}
use borrow.Author.Tests.{lt-leb, le-leb}
use Rattle.registers.proofs.permit.cwl_for.Goals as goal

pub returns-then-period-ge2500 : goal.returns-then-period-ge2500
unfolding cwl_for
returns-then-period-ge2500 c = simp (le-leb _ _ c.if-period-ge2500.true)

pub returns-then-period-ge1875 : goal.returns-then-period-ge1875
unfolding cwl_for
returns-then-period-ge1875 c = simp (le-leb _ _ c.if-period-ge1875.true, lt-leb _ _ c.if-period-ge2500.false)

pub returns-then-period-ge1500 : goal.returns-then-period-ge1500
unfolding cwl_for
returns-then-period-ge1500 c = simp (le-leb _ _ c.if-period-ge1500.true, lt-leb _ _ c.if-period-ge1875.false, lt-leb _ _ c.if-period-ge2500.false)

pub returns-then-period-ge1250 : goal.returns-then-period-ge1250
unfolding cwl_for
returns-then-period-ge1250 c = simp (le-leb _ _ c.if-period-ge1250.true, lt-leb _ _ c.if-period-ge1500.false, lt-leb _ _ c.if-period-ge1875.false, lt-leb _ _ c.if-period-ge2500.false)

pub returns-then-period-ge1070 : goal.returns-then-period-ge1070
unfolding cwl_for
returns-then-period-ge1070 c = simp (le-leb _ _ c.if-period-ge1070.true, lt-leb _ _ c.if-period-ge1250.false, lt-leb _ _ c.if-period-ge1500.false, lt-leb _ _ c.if-period-ge1875.false, lt-leb _ _ c.if-period-ge2500.false)

pub returns : goal.returns
unfolding cwl_for
returns c = simp (lt-leb _ _ c.if-period-ge1070.false, lt-leb _ _ c.if-period-ge1250.false, lt-leb _ _ c.if-period-ge1500.false, lt-leb _ _ c.if-period-ge1875.false, lt-leb _ _ c.if-period-ge2500.false)
