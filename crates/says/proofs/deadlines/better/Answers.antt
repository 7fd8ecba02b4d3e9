-- The sooner due edge after lo.
-- Assumes nothing.
use Rattle.running.specs.Late.{better}
use Rattle.says.proofs.deadlines.better.Goals as goal

pub returns-then-lo-d : goal.returns-then-lo-d
unfolding better
returns-then-lo-d c = simp c.if-lo-d.true

pub returns : goal.returns
unfolding better
returns c = simp c.if-lo-d.false
