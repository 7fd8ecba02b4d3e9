-- `bursts::words` meets its contract, by the tests of direction and type.
-- Assumes nothing.
use mathlib.Core.Path.{◌∙◌}
use borrow.Author.Tests.{eq-eqb, ne_eqb}
use Rattle.bursts.proofs.words.Goals as goal

pub returns-then-direction-ne0 : goal.returns-then-direction-ne0
returns-then-direction-ne0 c = c.up.ensures ∙ simp (c.write_start.ensures.1, ne_eqb _ _ c.if-direction-ne0.true)

pub returns-then-kind-ne0 : goal.returns-then-kind-ne0
returns-then-kind-ne0 c = c.interleaved.ensures ∙ simp (eq-eqb _ _ c.if-direction-ne0.false, ne_eqb _ _ c.if-kind-ne0.true)

pub returns : goal.returns
returns c = c.in_sequence.ensures ∙ simp (eq-eqb _ _ c.if-direction-ne0.false, eq-eqb _ _ c.if-kind-ne0.false)
