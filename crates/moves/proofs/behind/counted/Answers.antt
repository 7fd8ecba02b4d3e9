-- 5, then 7, then the rest.
-- Assumes nothing.
use Rattle.std.proofs.Common.{le-ltb, lt-ltb, eq-eqb, ne_eqb}
use Rattle.moves.proofs.behind.counted.Goals as goal

pub returns-then-over-ne0 : goal.returns-then-over-ne0
returns-then-over-ne0 c = rw (ne_eqb _ _ c.if-over-ne0.true)

pub returns-then-count-gt-LIMIT : goal.returns-then-count-gt-LIMIT
returns-then-count-gt-LIMIT c = rw (eq-eqb _ _ c.if-over-ne0.false, lt-ltb _ _ c.if-count-gt-LIMIT.true)

pub returns : goal.returns
returns c = rw (eq-eqb _ _ c.if-over-ne0.false, le-ltb _ _ c.if-count-gt-LIMIT.false)
