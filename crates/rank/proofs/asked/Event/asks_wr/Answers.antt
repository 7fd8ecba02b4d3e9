-- One rule after the other.
-- Assumes nothing.
use Rattle.records.proofs.Tags.{tag_is}
use Rattle.edges.specs.Asks.{asks_wr}
use Rattle.rank.proofs.asked.Event.asks_wr.Goals as goal

pub returns : goal.returns
unfolding asks_wr
returns c = simp (c.ask-2.ensures, c.ask.ensures, c.ask-turn.ensures, c.need13.ensures, c.held-rest.ensures, c.woken.ensures, c.need4-n4.ensures, c.al_of.ensures.0, c.eq-act.ensures, c.eq-rd.ensures, c.eq-wr.ensures, tag_is c.args.self.c)
