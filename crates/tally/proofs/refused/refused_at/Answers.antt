-- A refusal's number, and the place that goes with it.
-- Assumes nothing.
use Rattle.std.proofs.Common.{◌∙◌, eq-eqb, ne_eqb}
use Rattle.tally.specs.Refused.{refused_at}
use Rattle.tally.proofs.refused.refused_at.Goals as goal

pub returns-then-refused-eq5 : goal.returns-then-refused-eq5
unfolding refused_at
returns-then-refused-eq5 c = rw (eq-eqb _ _ c.if-refused-eq5.true)

pub returns-then-refused-eq6 : goal.returns-then-refused-eq6
unfolding refused_at
returns-then-refused-eq6 c = c.step_of_zero.ensures ∙ rw (ne_eqb _ _ c.if-refused-eq5.false, eq-eqb _ _ c.if-refused-eq6.true)

pub returns-then-refused-eq7 : goal.returns-then-refused-eq7
unfolding refused_at
returns-then-refused-eq7 c =
    c.past_limit.ensures ∙ rw (ne_eqb _ _ c.if-refused-eq5.false, ne_eqb _ _ c.if-refused-eq6.false, eq-eqb _ _ c.if-refused-eq7.true)

pub returns : goal.returns
unfolding refused_at
returns c = rw (ne_eqb _ _ c.if-refused-eq5.false, ne_eqb _ _ c.if-refused-eq6.false, ne_eqb _ _ c.if-refused-eq7.false)
