-- The soonest of the banks so far.
-- Assumes nothing.
use mathlib.Core.Path.{◌≡◌}
use Rattle.running.specs.Late.{soonest}
use Rattle.says.proofs.deadlines.soonest.Given as goal

abbrev pub invariant-loop-b : goal.invariant-loop-b
invariant-loop-b l = l.pick ≡ soonest l.due-items l.lo l.hi l.b
