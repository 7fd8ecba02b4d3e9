-- Its marks, place by place.
-- Assumes nothing.
use Rattle.edges.specs.Views.{kept_of}
use Rattle.rank.proofs.views.kept_of.Goals as goal

pub returns : goal.returns
unfolding kept_of
returns c = simp c.needing.ensures
