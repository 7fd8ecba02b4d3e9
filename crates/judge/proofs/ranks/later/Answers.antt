-- Edge and count go on.
-- Assumes nothing.
use Rattle.edges.specs.Step.{later_of}
use borrow.Author.Rules.{rules}
use Rattle.judge.proofs.ranks.later.Goals as goal

pub returns : goal.returns
unfolding later_of
returns c = search rules
