-- The lane's turns are laws of edges (proofs/Lane.antt).
-- Assumes nothing.
use Prim.Native.Nat.{◌-◌}
use lib.ListN.{length}
use Rattle.edges.specs.Running.{rank_of}
use Rattle.edges.specs.Lane.{Folding}
use Rattle.rank.specs.Lane.{track, rest}
use Rattle.rank.proofs.lane.Lane.smoothly.Given as goal

abbrev pub invariant-loop-at : goal.invariant-loop-at
invariant-loop-at l =
    Folding l.chip (rank_of (rest l.initial.self) (track l.initial.self)) l.from l.bytes l.clear l.real l.stale l.w (rest l.self) (track l.self) l.at

abbrev pub decreases-loop-at : goal.decreases-loop-at
decreases-loop-at l = length l.bytes - l.at
