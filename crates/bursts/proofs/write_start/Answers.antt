-- `bursts::write_start` meets its contract, by the test of the length.
-- Assumes nothing.
use borrow.Author.Tests.{eq-eqb, ne_eqb}
use borrow.Author.Rules.{rules}
use Rattle.bursts.proofs.write_start.Goals as goal

pub returns-then-length-eq8 : goal.returns-then-length-eq8
returns-then-length-eq8 c = (search rules, simp (eq-eqb _ _ c.if-length-eq8.true))

pub returns : goal.returns
returns c = (search rules, simp (ne_eqb _ _ c.if-length-eq8.false))
