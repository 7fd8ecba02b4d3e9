-- Of the four deadlines the soonest.
-- Assumes nothing.
use Rattle.edges.specs.Ends.{next_late}
use Rattle.rank.proofs.closing.next_late.Goals as goal

pub returns : goal.returns
unfolding next_late
returns c =
    simp (
      c.sooner-3.ensures,
      c.sooner-2.ensures,
      c.sooner.ensures,
      c.next31-x31.ensures,
      c.next28-x28.ensures,
      c.next25-x25.ensures,
      c.next24-x24.ensures,
    )
