-- One place after the other.
-- Assumes nothing.
use Prim.Native.Nat.{◌<◌}
use mathlib.Core.Path.{◌≡◌}
use Rattle.edges.specs.Views.{latest_from}
use Rattle.rank.proofs.views.latest.Given as goal

abbrev pub invariant-loop-i : goal.invariant-loop-i
invariant-loop-i l = (l.best < 16) × (l.best ≡ latest_from l.nums l.from l.i)
