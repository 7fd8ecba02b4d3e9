-- The end edge, or one before the broken one.
-- Assumes nothing.
use borrow.Author.Tests.{eq-eqb, ne_eqb}
use mathlib.Core.Path.{◌∙◌}
use Rattle.rank.proofs.closing.rest.Goals as goal

pub returns-then-v-eq0 : goal.returns-then-v-eq0
returns-then-v-eq0 c = rw (eq-eqb _ _ c.if-v-eq0.true)

pub returns : goal.returns
returns c = c.since.ensures ∙ rw (ne_eqb _ _ c.if-v-eq0.false)
