-- By the test.
-- Assumes nothing.
use borrow.Author.Tests.{lt-ltb, le-ltb}
use Rattle.rank.proofs.views.reset_of.Goals as goal

pub returns-then-dll-srx : goal.returns-then-dll-srx
returns-then-dll-srx c = simp (lt-ltb _ _ c.if-dll-srx.true)

pub returns : goal.returns
returns c = simp (le-ltb _ _ c.if-dll-srx.false)
