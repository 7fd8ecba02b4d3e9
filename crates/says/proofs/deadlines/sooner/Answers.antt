-- Of equals the first.
-- Assumes nothing.
use borrow.Author.Tests.{lt-ltb, le-ltb, le-leb, lt-leb}
use Rattle.running.specs.Late.{sooner}
use Rattle.says.proofs.deadlines.sooner.Goals as goal

pub returns-then-x-y : goal.returns-then-x-y
unfolding sooner
returns-then-x-y c = simp (le-leb _ _ c.if-x-y.true, le-ltb _ _ c.if-x-y.true)

pub returns : goal.returns
unfolding sooner
returns c = simp (lt-ltb _ _ c.if-x-y.false, lt-leb _ _ c.if-x-y.false)
