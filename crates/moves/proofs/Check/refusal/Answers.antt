-- The header, then what is behind it.
-- Assumes nothing.
use Rattle.std.proofs.Common.{◌∙◌, eq-eqb, ne_eqb}
use Rattle.moves.specs.Check.{refusal_of}
use Rattle.moves.proofs.Check.refusal.Goals as goal

pub returns-then-self-ne0 : goal.returns-then-self-ne0
unfolding refusal_of
returns-then-self-ne0 c = rw (ne_eqb _ _ c.if-self-ne0.true)

pub returns : goal.returns
unfolding refusal_of
returns c = c.code.ensures ∙ c.behind.ensures ∙ rw (eq-eqb _ _ c.if-self-ne0.false)
