-- The header's ranges, then the ranks'.
-- Assumes nothing.
use Rattle.judge.specs.Ranges.{in_range}
use Rattle.judge.proofs.calls.in_range.Goals as goal

pub returns : goal.returns
unfolding in_range
returns c = simp (c.ranks_agree.ensures, c.in_range.ensures, c.trefi-interval.ensures)
