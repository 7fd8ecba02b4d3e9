-- Three fields change.
-- Assumes nothing.
use mathlib.Core.Path.{refl}
use Rattle.edges.specs.Step.{stopped_of}
use Rattle.rank.proofs.moved.stopped.Goals as goal

pub returns : goal.returns
unfolding stopped_of
returns c = refl
