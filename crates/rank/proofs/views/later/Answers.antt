-- By the test.
-- Assumes nothing.
use borrow.Author.Tests.{lt-ltb, le-ltb}
use Rattle.rank.proofs.views.later.Goals as goal

pub returns-then-nums-x : goal.returns-then-nums-x
returns-then-nums-x c = record { value = simp (lt-ltb _ _ c.if-nums-x.true); upper_bound = c.requires.y_bound }

pub returns : goal.returns
returns c = record { value = simp (le-ltb _ _ c.if-nums-x.false); upper_bound = c.requires.x_bound }
