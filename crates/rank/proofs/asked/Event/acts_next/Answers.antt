-- The oldest gives way to an ACT.
-- Assumes nothing.
use Rattle.records.proofs.Tags.{tag_is}
use Rattle.edges.specs.Next.{acts_next}
use Rattle.rank.proofs.asked.Event.acts_next.Goals as goal

pub returns : goal.returns
unfolding acts_next
returns c = simp (c.either.ensures, c.put.ensures, c.put-2.ensures, c.eq-act.ensures, tag_is c.args.self.c)
