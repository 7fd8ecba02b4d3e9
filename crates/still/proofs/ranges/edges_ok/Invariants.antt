-- The edges so far.
-- Assumes nothing.
use mathlib.Core.Path.{◌≡◌}
use Rattle.edges.specs.Ranges.{edges_ok}
use Rattle.still.proofs.ranges.edges_ok.Given as goal

abbrev pub invariant-loop-e : goal.invariant-loop-e
invariant-loop-e g l = l.ok ≡ edges_ok l.e-items l.e-index
