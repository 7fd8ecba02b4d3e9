-- The kind of the record's command.
-- Assumes nothing.
use Rattle.std.proofs.Common.{◌∙◌}
use Rattle.tally.specs.Kinds.{kind_at}
use Rattle.tally.proofs.kind_at.Goals as goal

pub returns : goal.returns
unfolding kind_at
returns c = (c.kind_of.ensures.0 ∙ rw c.command_of-c.ensures, c.kind_of.ensures.1)
