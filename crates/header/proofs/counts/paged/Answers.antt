-- The page picks the column.
-- Assumes nothing.
use Rattle.header.proofs.counts.paged.Goals as goal

pub returns-then-h : goal.returns-then-h
returns-then-h c = simp (c.time.ensures, c.if-h.true)

pub returns : goal.returns
returns c = simp (c.time-2.ensures, c.if-h.false)
