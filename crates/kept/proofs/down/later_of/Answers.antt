-- By both.
-- Assumes nothing.
use borrow.Author.Tests.{lt-ltb, le-ltb}
use Rattle.running.specs.Down.{later_of}
use Rattle.kept.proofs.down.later_of.Goals as goal

pub returns-in-Fine : goal.returns-in-Fine
unfolding later_of
returns-in-Fine c = rw c.in-Fine.is

pub returns-in-Broken-b : goal.returns-in-Broken-b
unfolding later_of
returns-in-Broken-b c = rw (c.in-Broken.is, c.in-Broken-b.is, lt-ltb _ _ c.if-n-m.true)

pub returns-in_default : goal.returns-in_default
unfolding later_of
returns-in_default c = rw (c.in-Broken.is, c.in-Broken-b.is, le-ltb _ _ c.if-n-m.false)

pub returns-in_default-2 : goal.returns-in_default-2
unfolding later_of
returns-in_default-2 c = rw (c.in-Broken.is, c.in_default.is)
