-- One rule after the other.
-- Assumes nothing.
use Rattle.edges.specs.Asks.{asks_sre}
use Rattle.rank.proofs.asked.Event.asks_sre.Goals as goal

pub returns : goal.returns
unfolding asks_sre
returns c = simp (c.shut.ensures, c.held.ensures, c.read.ensures, c.woken.ensures)
