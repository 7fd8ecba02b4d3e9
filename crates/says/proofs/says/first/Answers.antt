-- The first, if it says something.
-- Assumes nothing.
use borrow.Author.Tests.{eq-eqb, ne_eqb}
use Rattle.says.proofs.says.first.Goals as goal

pub returns-then-v-eq0 : goal.returns-then-v-eq0
returns-then-v-eq0 c = rw (eq-eqb _ _ c.if-v-eq0.true)

pub returns : goal.returns
returns c = rw (ne_eqb _ _ c.if-v-eq0.false)
