-- No header, and ranks of zeros.
-- Assumes nothing.
use Rattle.judge.proofs.State.unopened.Goals as goal

pub returns : goal.returns
returns c = simp (c.holding.ensures, c.fresh-fresh.ensures)
