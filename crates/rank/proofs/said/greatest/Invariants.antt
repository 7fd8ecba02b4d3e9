-- One place after the other.
-- Assumes nothing.
use mathlib.Core.Path.{◌≡◌}
use Rattle.edges.specs.Asks.{greatest}
use Rattle.rank.proofs.said.greatest.Given as goal

abbrev pub invariant-loop-x : goal.invariant-loop-x
invariant-loop-x l = l.most ≡ greatest l.x-items l.x-index
