-- By the test.
-- Assumes nothing.
use borrow.Author.Tests.{le-leb, lt-leb}
use Rattle.rank.proofs.owing.paid.Goals as goal

pub returns-then-due-e : goal.returns-then-due-e
returns-then-due-e c = simp (le-leb _ _ c.if-due-e.true)

pub returns : goal.returns
returns c = simp (lt-leb _ _ c.if-due-e.false)
