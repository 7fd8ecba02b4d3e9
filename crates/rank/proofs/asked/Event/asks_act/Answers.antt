-- One rule after the other.
-- Assumes nothing.
use Rattle.records.proofs.Tags.{tag_is}
use Rattle.edges.specs.Asks.{asks_act}
use Rattle.rank.proofs.asked.Event.asks_act.Goals as goal

pub returns : goal.returns
unfolding asks_act
returns c = simp (c.ask-2.ensures, c.ask.ensures, c.ask-all.ensures, c.max.ensures, c.either.ensures, c.held-rest.ensures, c.woken.ensures, c.eq-act.ensures, c.eq-pre.ensures, c.eq-rd.ensures, c.eq-wr.ensures, tag_is c.args.self.c)
