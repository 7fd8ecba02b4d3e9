-- By whether it closed its bank.
-- Assumes nothing.
use borrow.Author.Tests.{eq-eqb, ne_eqb}
use Rattle.kept.proofs.down.write_need.Goals as goal

pub returns-then-shut-wrote : goal.returns-then-shut-wrote
returns-then-shut-wrote c = simp (eq-eqb _ _ c.if-shut-wrote.true, c.auto_need.ensures)

pub returns : goal.returns
returns c = rw (ne_eqb _ _ c.if-shut-wrote.false)
