-- A record a turn.
-- Assumes nothing.
use Prim.Native.Nat.{◌*◌, ◌≤◌}
use lib.ListN.{drop}
use Rattle.wide.specs.Low.{Looked}
use Rattle.wide.proofs.low.look.Given as goal

abbrev pub invariant-loop-i : goal.invariant-loop-i
invariant-loop-i l = (l.spare ≤ l.i * 65536) × Looked (drop l.at l.bytes) l.i l.one l.two l.spare
