-- Each turn counts a record; a step of 0 gives the rank as it was.
-- Assumes nothing.
use Prim.Native.Nat.{◌-◌}
use lib.ListN.{length}
use Rattle.edges.specs.Folding.{Counts}
use Rattle.rank.proofs.counting.counted.Given as goal

abbrev pub invariant-loop-at : goal.invariant-loop-at
invariant-loop-at l = Counts l.bytes l.initial.m l.initial.at l.m l.at

abbrev pub decreases-loop-at : goal.decreases-loop-at
decreases-loop-at l = length l.bytes - l.at
