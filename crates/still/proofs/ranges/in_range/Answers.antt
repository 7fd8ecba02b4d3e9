-- The ranges one after the other.
-- Assumes nothing.
use mathlib.Core.Bool.{◌&&◌}
use lib.Dec.{leb}
use Rattle.running.specs.Ranges.{last_edge}
use Rattle.edges.specs.Ranges.{rank_in_range}
use Rattle.still.proofs.ranges.in_range.Goals as goal

pub returns : goal.returns
unfolding rank_in_range
returns c =
    let s = c.args.s in
    λ i.
    c.counted.ensures i
    && (c.debt_ok.ensures i
    && (leb s.acts.turn 3 && (leb s.first.edge last_edge
    && (c.edge_ok.ensures i && (c.edges_ok.ensures i && c.edges_ok-2.ensures i)))))
