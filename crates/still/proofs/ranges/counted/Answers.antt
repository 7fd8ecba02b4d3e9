-- Within the limit the product fits.
-- Assumes nothing.
use borrow.Author.Tests.{lt-ltb, le-ltb, le-leb, lt-leb}
use Rattle.still.proofs.ranges.counted.Goals as goal

pub returns-then-count-gt1048576 : goal.returns-then-count-gt1048576
returns-then-count-gt1048576 c = simp (lt-ltb _ _ c.if-count-gt1048576.true, lt-leb _ _ c.if-count-gt1048576.true)

pub returns : goal.returns
returns c = simp (le-leb _ _ c.if-count-gt1048576.false, le-ltb _ _ c.if-count-gt1048576.false)
