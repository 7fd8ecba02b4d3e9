-- The break so far, a deadline, or clean.
-- Assumes nothing.
use borrow.Author.Tests.{eq-eqb, ne_eqb}
use mathlib.Core.Path.{◌∙◌}
use Rattle.edges.specs.Ends.{verdict_of}
use Rattle.rank.proofs.closing.verdict_of.Goals as goal

pub returns-then-first-ne0 : goal.returns-then-first-ne0
unfolding verdict_of
returns-then-first-ne0 c = rw (ne_eqb _ _ c.if-first-ne0.true)

pub returns : goal.returns
unfolding verdict_of
returns c = c.told.ensures ∙ rw (eq-eqb _ _ c.if-first-ne0.false, ← c.next_late.ensures)
