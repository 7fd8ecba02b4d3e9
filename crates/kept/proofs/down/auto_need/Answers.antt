-- Where no MRS came since.
-- Assumes nothing.
use borrow.Author.Tests.{lt-ltb, le-ltb}
use Rattle.kept.proofs.down.auto_need.Goals as goal

pub returns-then-mrs-wrote : goal.returns-then-mrs-wrote
returns-then-mrs-wrote c = simp (lt-ltb _ _ c.if-mrs-wrote.true, c.wr_of.ensures.0, c.h_of.ensures.0, c.cwl_of.ensures.0, c.al_of.ensures.0)

pub returns : goal.returns
returns c = rw (le-ltb _ _ c.if-mrs-wrote.false)
