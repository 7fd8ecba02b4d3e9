-- By the edition.
-- Assumes nothing.
use Rattle.std.proofs.Common.{◌∙◌, eq-eqb, ne_eqb}
use Rattle.moves.specs.Check.{refusal_of}
use Rattle.moves.proofs.Check.behind.Goals as goal

pub returns-then-self-eq1 : goal.returns-then-self-eq1
unfolding refusal_of
returns-then-self-eq1 c = c.counted.ensures ∙ rw (eq-eqb _ _ c.if-self-eq1.true, c.by_seen.ensures)

pub returns : goal.returns
unfolding refusal_of
returns c = c.counted-2.ensures ∙ rw (ne_eqb _ _ c.if-self-eq1.false, c.by_seen-2.ensures)
