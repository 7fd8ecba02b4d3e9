-- Where no MRS came since.
-- Assumes nothing.
use borrow.Author.Tests.{lt-ltb, le-ltb}
use Rattle.kept.proofs.down.read_need.Goals as goal

pub returns-then-mrs-read : goal.returns-then-mrs-read
returns-then-mrs-read c = simp (lt-ltb _ _ c.if-mrs-read.true, c.cl_of.ensures.0, c.al_of.ensures.0)

pub returns : goal.returns
returns c = rw (le-ltb _ _ c.if-mrs-read.false)
