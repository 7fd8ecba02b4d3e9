-- The latest change of CKE stays in range.
-- Assumes nothing.
use mathlib.Core.Path.{ap}
use Rattle.edges.specs.Running.{Rest}
use Rattle.edges.proofs.Exits.{near-after}
use Rattle.rank.proofs.lane.Lane.pass_next.Goals as goal

pub clear_next-requires-clause-at_le_last_edge : goal.clear_next-requires-clause-at_le_last_edge
clear_next-requires-clause-at_le_last_edge c =
    let left = c.come.ensures in
    near-after _ _ _ _ _ left.slow _ (ap (λ (d : Rest). d.device) left.rest) c.requires.turned c.requires.edge
