-- A rise of CKE.
-- Assumes nothing.
use borrow.Author.Tests.{le-leb, lt-leb}
use Rattle.records.specs.Command.{rising}
use Rattle.records.proofs.rises.Goals as goal

pub returns-then-pins-lt7 : goal.returns-then-pins-lt7
unfolding rising
returns-then-pins-lt7 c = rw (lt-leb _ _ c.if-pins-lt7.true)

pub returns-then-asleep : goal.returns-then-asleep
unfolding rising
returns-then-asleep c = rw (le-leb _ _ c.if-pins-lt7.false, c.if-asleep.true)

pub returns : goal.returns
unfolding rising
returns c = rw (le-leb _ _ c.if-pins-lt7.false, c.if-asleep.false)
