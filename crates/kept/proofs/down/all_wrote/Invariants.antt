-- The latest of the banks so far.
-- Assumes nothing.
use mathlib.Core.Path.{◌≡◌}
use lib.ListN.{get_or}
use Rattle.running.specs.Marks.{empty}
use Rattle.running.specs.Down as down
use Rattle.kept.proofs.down.all_wrote.Given as goal

abbrev pub invariant-loop-k : goal.invariant-loop-k
invariant-loop-k l = l.latest ≡ down.latest_of (λ b. down.check26 l.e (down.entry_write l.g l.m (get_or l.k-items b empty))) l.k-index
