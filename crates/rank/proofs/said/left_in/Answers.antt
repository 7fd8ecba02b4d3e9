-- The waiting time is over, or it is not.
-- Assumes nothing.
use borrow.Author.Tests.{le-leb, lt-leb}
use Rattle.edges.specs.Says.{left_in}
use Rattle.rank.proofs.said.left_in.Goals as goal

pub returns-then-wait_for-e : goal.returns-then-wait_for-e
unfolding left_in
returns-then-wait_for-e c =
    simp (← c.requires.c_value, ← c.wait_for.ensures, le-leb _ _ c.if-wait_for-e.true)

pub returns : goal.returns
unfolding left_in
returns c =
    simp (
      c.exit_rules.ensures,
      c.shared_of.ensures,
      ← c.requires.c_value,
      ← c.wait_for.ensures,
      lt-leb _ _ c.if-wait_for-e.false,
    )
