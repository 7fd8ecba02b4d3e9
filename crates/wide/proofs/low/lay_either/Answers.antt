-- By the rank.
-- Assumes nothing.
use Rattle.wide.proofs.low.lay_either.Goals as goal

pub returns-then-second : goal.returns-then-second
returns-then-second c = rw c.if-second.true c.lay.ensures

pub returns : goal.returns
returns c = rw c.if-second.false c.lay-2.ensures
