-- The first that is broken.
-- Assumes nothing.
use Rattle.answers.specs.Answer.{or_else}
use Rattle.kept.proofs.breaks.or_else.Goals as goal

pub returns-in-Fine : goal.returns-in-Fine
unfolding or_else
returns-in-Fine c = rw c.in-Fine.is

pub returns-in-Broken : goal.returns-in-Broken
unfolding or_else
returns-in-Broken c = rw c.in-Broken.is
