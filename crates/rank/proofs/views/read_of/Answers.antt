-- The latest of the eight.
-- Assumes nothing.
use Rattle.edges.specs.Views.{read_of}
use Rattle.rank.proofs.views.read_of.Goals as goal

pub returns : goal.returns
unfolding read_of
returns c = simp c.latest-i.ensures.value
