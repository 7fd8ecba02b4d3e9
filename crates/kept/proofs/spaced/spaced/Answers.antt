-- Broken where too few clocks have passed.
-- Assumes nothing.
use borrow.Author.Tests.{lt-ltb, le-ltb}
use Rattle.running.specs.Marks.{spaced}
use Rattle.kept.proofs.spaced.spaced.Goals as goal

pub returns-then-found-need : goal.returns-then-found-need
unfolding spaced
returns-then-found-need c = simp (lt-ltb _ _ c.if-found-need.true, ← c.since-found.ensures)

pub returns : goal.returns
unfolding spaced
returns c = simp (le-ltb _ _ c.if-found-need.false, ← c.since-found.ensures)
