-- An edge more.
-- Assumes nothing.
use mathlib.Core.Bool.{◌&&◌}
use mathlib.Core.Path.{refl, ◌∙◌}
use Rattle.edges.specs.Ranges.{edges_ok}
use Rattle.still.proofs.Places.{one_more_lem}
use Rattle.still.proofs.ranges.edges_ok.Goals as goal

pub loop-e-init : goal.loop-e-init
unfolding edges_ok
loop-e-init g c = refl

pub loop-e-preserved : goal.loop-e-preserved
loop-e-preserved g c = let l = c.loop-e in (λ j. l.invariant j && c.edge_ok-ok.ensures j) ∙ one_more_lem _ l.e-index
