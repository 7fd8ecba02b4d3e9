-- Sixteen places.
-- Assumes nothing.
use borrow.Author.Rules.{rules}
use Rattle.laws.specs.Eight.{table}
use Rattle.rank.proofs.waiting.joined.Goals as goal

pub returns : goal.returns
unfolding table
returns c = search rules
