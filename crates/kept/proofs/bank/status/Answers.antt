-- The bank's three cases.
-- Assumes nothing.
use borrow.Author.Tests.{lt-ltb, le-ltb, le-leb, lt-leb}
use Rattle.running.specs.Breaks.{status_of}
use Rattle.kept.proofs.bank.status.Goals as goal

pub returns-then-k : goal.returns-then-k
unfolding status_of
returns-then-k c = simp (lt-ltb _ _ c.if-k.true)

pub returns-then-k-t : goal.returns-then-k-t
unfolding status_of
returns-then-k-t c = simp (le-leb _ _ c.if-k-t.true, le-ltb _ _ c.if-k.false)

pub returns : goal.returns
unfolding status_of
returns c = simp (lt-leb _ _ c.if-k-t.false, le-ltb _ _ c.if-k.false)
