-- A mark of no record needs nothing.
-- Assumes nothing.
use borrow.Author.Tests.{eq-eqb, ne_eqb}
use Rattle.running.specs.Marks.{needing}
use Rattle.kept.proofs.spaced.needing.Goals as goal

pub returns-then-m-eq0 : goal.returns-then-m-eq0
unfolding needing
returns-then-m-eq0 c = simp (eq-eqb _ _ c.if-m-eq0.true)

pub returns : goal.returns
unfolding needing
returns c = simp (ne_eqb _ _ c.if-m-eq0.false)
