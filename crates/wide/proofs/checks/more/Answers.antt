-- The record's levels and bits beside what was seen.
-- Assumes nothing.
use Rattle.wide.specs.Seen.{seen_more}
use Rattle.wide.proofs.checks.more.Goals as goal

pub returns : goal.returns
unfolding seen_more
returns c = rw c.returns.ensures
