-- The break, or clean at the last edge.
-- Assumes nothing.
use borrow.Author.Tests.{eq-eqb, ne_eqb}
use Rattle.edges.specs.Step.{so_far}
use Rattle.still.proofs.shown.so_far.Goals as goal

pub returns-then-first-eq0 : goal.returns-then-first-eq0
unfolding so_far
returns-then-first-eq0 c = simp (c.clean_at.ensures, eq-eqb _ _ c.if-first-eq0.true)

pub returns : goal.returns
unfolding so_far
returns c = simp (ne_eqb _ _ c.if-first-eq0.false)
