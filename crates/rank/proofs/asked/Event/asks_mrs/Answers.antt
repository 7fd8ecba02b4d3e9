-- One rule after the other.
-- Assumes nothing.
use Rattle.edges.specs.Asks.{asks_mrs}
use Rattle.rank.proofs.asked.Event.asks_mrs.Goals as goal

pub returns : goal.returns
unfolding asks_mrs
returns c = simp (c.shut.ensures, c.held.ensures, c.read.ensures, c.woken.ensures)
