-- Broken before, now, or not.
-- Assumes nothing.
use borrow.Author.Tests.{eq-eqb, ne_eqb}
use Rattle.edges.specs.Step.{step_of}
use Rattle.rank.proofs.moved.step.Goals as goal

pub returns-then-broken-ne0 : goal.returns-then-broken-ne0
unfolding step_of
returns-then-broken-ne0 c = simp (c.stopped.ensures, ne_eqb _ _ c.if-broken-ne0.true)

pub returns-then-outcome-ne0 : goal.returns-then-outcome-ne0
unfolding step_of
returns-then-outcome-ne0 c = simp (c.stopped-then-outcome-ne0.ensures, ← c.said-v.ensures, ne_eqb _ _ c.if-outcome-ne0.true, eq-eqb _ _ c.if-broken-ne0.false)

pub returns : goal.returns
unfolding step_of
returns c = simp (c.moved.ensures, ← c.said-v.ensures, eq-eqb _ _ c.if-outcome-ne0.false, eq-eqb _ _ c.if-broken-ne0.false)
