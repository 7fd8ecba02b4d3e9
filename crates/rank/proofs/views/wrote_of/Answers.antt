-- The latest of the eight.
-- Assumes nothing.
use Rattle.edges.specs.Views.{wrote_of}
use Rattle.rank.proofs.views.wrote_of.Goals as goal

pub returns : goal.returns
unfolding wrote_of
returns c = simp c.latest-i.ensures.value
