-- The rules that speak of the command.
-- Assumes nothing.
use borrow.Author.Tests.{eq-eqb, ne_eqb}
use Rattle.running.specs.Breaks.{spacings, waits}
use Rattle.kept.proofs.spacing.of_pre.Goals as goal

pub returns-then-r-eq1 : goal.returns-then-r-eq1
unfolding spacings waits
returns-then-r-eq1 c = simp (c.spaced.ensures, c.spaced-b10.ensures, c.read_mark.ensures, c.spaced-b11.ensures, c.wrote_mark.ensures, eq-eqb _ _ c.if-r-eq1.true, c.waits-b15.ensures)

pub returns : goal.returns
unfolding spacings waits
returns c = simp (c.spaced-2.ensures, c.needing.ensures, c.spaced-b10-2.ensures, c.spaced-b11-2.ensures, ne_eqb _ _ c.if-r-eq1.false, c.waits-b15.ensures)
