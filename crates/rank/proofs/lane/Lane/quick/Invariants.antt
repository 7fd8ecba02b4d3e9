-- Each turn is a law of edges (proofs/Loop.antt).
-- Assumes nothing.
use Prim.Native.Nat.{◌-◌}
use lib.ListN.{length}
use Rattle.rank.specs.Lane.{track_at, Came}
use Rattle.rank.proofs.lane.Lane.quick.Given as goal

abbrev pub invariant-loop-at : goal.invariant-loop-at
invariant-loop-at l = Came l.chip l.w l.clear l.bytes l.initial.self (track_at l.initial.self l.initial.edge l.initial.n) l.initial.at l.self (track_at l.self l.edge l.n) l.at

abbrev pub decreases-loop-at : goal.decreases-loop-at
decreases-loop-at l = length l.bytes - l.at
