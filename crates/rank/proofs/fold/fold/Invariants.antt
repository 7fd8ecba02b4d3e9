-- A lane, then a record by the marks, and again.
-- Assumes nothing.
use Prim.Native.Nat.{◌-◌}
use lib.ListN.{length}
use Rattle.rank.specs.Lane.{Stood}
use Rattle.rank.proofs.fold.fold.Given as goal

abbrev pub invariant-loop-at : goal.invariant-loop-at
invariant-loop-at l = Stood l.chip l.bytes l.fn.s l.lane l.at

abbrev pub decreases-loop-at : goal.decreases-loop-at
decreases-loop-at l = length l.bytes - l.at
