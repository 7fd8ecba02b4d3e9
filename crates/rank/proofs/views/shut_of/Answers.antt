-- The latest start.
-- Assumes nothing.
use Rattle.edges.specs.Views.{shut_of}
use Rattle.rank.proofs.views.shut_of.Goals as goal

pub returns : goal.returns
unfolding shut_of
returns c = simp (c.needing.ensures, c.last_start-b.ensures.value)
