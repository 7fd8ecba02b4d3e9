-- By the edition.
-- Assumes nothing.
use Rattle.std.proofs.Common.{◌∙◌, eq-eqb, ne_eqb}
use Rattle.moves.specs.Check.{seen_by}
use Rattle.moves.proofs.checks.seen_by.Goals as goal

pub returns-then-edition-eq1 : goal.returns-then-edition-eq1
unfolding seen_by
returns-then-edition-eq1 c = rw (eq-eqb _ _ c.if-edition-eq1.true, c.step_of_zero.ensures)

pub returns : goal.returns
unfolding seen_by
returns c = c.seen_in.ensures ∙ rw (ne_eqb _ _ c.if-edition-eq1.false)
