-- By the CKE level before and now.
-- Assumes nothing.
use Rattle.records.specs.Command.{command_of}
use Rattle.records.proofs.command_of.Goals as goal

pub returns-then-r : goal.returns-then-r
unfolding command_of
returns-then-r c = simp (c.by_pins.ensures, c.if-r.true, c.if-before.true)

pub returns-then-before : goal.returns-then-before
unfolding command_of
returns-then-before c = simp (c.falls.ensures, c.if-r.false, c.if-before.true)

pub returns-then-r-2 : goal.returns-then-r-2
unfolding command_of
returns-then-r-2 c = simp (c.rises.ensures, c.if-r-2.true, c.if-before.false)

pub returns : goal.returns
unfolding command_of
returns c = simp (c.if-r-2.false, c.if-before.false)
