-- The due edge.
-- Assumes nothing.
use borrow.Author.Tests.{lt-ltb, le-ltb}
use Rattle.running.specs.Next.{due}
use Rattle.rank.proofs.deadlines.due.Goals as goal

pub returns-then-k : goal.returns-then-k
unfolding due
returns-then-k c = simp (lt-ltb _ _ c.if-k.true)

pub returns-then-last-k : goal.returns-then-last-k
unfolding due
returns-then-last-k c = simp (lt-ltb _ _ c.if-last-k.true, le-ltb _ _ c.if-k.false)

pub returns : goal.returns
unfolding due
returns c = simp (le-ltb _ _ c.if-last-k.false, le-ltb _ _ c.if-k.false)
