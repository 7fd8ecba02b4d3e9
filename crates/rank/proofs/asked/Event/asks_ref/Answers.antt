-- One rule after the other.
-- Assumes nothing.
use Rattle.edges.specs.Asks.{asks_ref}
use Rattle.rank.proofs.asked.Event.asks_ref.Goals as goal

pub returns : goal.returns
unfolding asks_ref
returns c = simp (c.shut.ensures, c.held.ensures, c.woken.ensures)
