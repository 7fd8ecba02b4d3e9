-- One rule after the other.
-- Assumes nothing.
use Rattle.records.proofs.Tags.{tag_is}
use Rattle.edges.specs.Asks.{asks_rd}
use Rattle.rank.proofs.asked.Event.asks_rd.Goals as goal

pub returns : goal.returns
unfolding asks_rd
returns c = simp (c.ask-2.ensures, c.ask.ensures, c.ask-turn.ensures, c.need14.ensures, c.held-rest.ensures, c.ask-woke.ensures, c.woken.ensures, c.ask-late.ensures, c.resets_now-resets.ensures, c.need4-n4.ensures, c.al_of.ensures.0, c.eq-act.ensures, c.eq-rd.ensures, c.eq-wr.ensures, c.eq-srx.ensures, c.eq-pdx.ensures, tag_is c.args.self.c)
