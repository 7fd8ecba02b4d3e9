-- One rule after the other.
-- Assumes nothing.
use Rattle.records.proofs.Tags.{tag_is}
use Rattle.edges.specs.Asks.{asks_pre}
use Rattle.rank.proofs.asked.Event.asks_pre.Goals as goal

pub returns : goal.returns
unfolding asks_pre
returns c = simp (c.ask.ensures, c.ask-read.ensures, c.need10.ensures, c.ask-wrote.ensures, c.need11.ensures, c.held-rest.ensures, c.woken.ensures, c.eq-act.ensures, c.eq-rd.ensures, c.eq-wr.ensures, tag_is c.args.self.c)
