-- The waiting time is over, or it is not.
-- Assumes nothing.
use borrow.Author.Tests.{le-leb, lt-leb}
use Rattle.edges.specs.Says.{spaced_in}
use Rattle.rank.proofs.said.spaced_in.Goals as goal

pub returns-then-wait_for-e : goal.returns-then-wait_for-e
unfolding spaced_in
returns-then-wait_for-e c =
    simp (
      c.last_rules.ensures,
      c.shared_of-shared.ensures,
      ← c.requires.c_value,
      ← c.wait_for.ensures,
      le-leb _ _ c.if-wait_for-e.true,
    )

pub returns : goal.returns
unfolding spaced_in
returns c =
    simp (
      c.spacings.ensures,
      c.kept_of.ensures,
      c.shared_of-shared.ensures,
      ← c.requires.c_value,
      ← c.wait_for.ensures,
      lt-leb _ _ c.if-wait_for-e.false,
    )
