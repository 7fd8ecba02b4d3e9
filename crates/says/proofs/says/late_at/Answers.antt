-- A deadline at the edge itself.
-- Assumes nothing.
use borrow.Author.Tests.{eq-eqb, ne_eqb}
use Rattle.says.proofs.says.late_at.Goals as goal

pub returns-then-x-e : goal.returns-then-x-e
returns-then-x-e c = simp (c.why.ensures, eq-eqb _ _ c.if-x-e.true)

pub returns : goal.returns
returns c = simp (ne_eqb _ _ c.if-x-e.false)
