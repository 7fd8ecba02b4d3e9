-- One bank after the other.
-- Assumes nothing.
use Prim.Native.Nat.{◌<◌}
use mathlib.Core.Path.{◌≡◌}
use Rattle.edges.specs.Views.{last_start}
use Rattle.rank.proofs.views.last_start.Given as goal

abbrev pub invariant-loop-i : goal.invariant-loop-i
invariant-loop-i l = (l.best < 8) × (l.best ≡ last_start l.at l.nums l.i)
