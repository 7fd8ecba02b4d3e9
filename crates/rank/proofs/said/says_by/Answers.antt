-- A deadline before the edge; then by number the record and the deadlines at the edge.
-- Assumes nothing.
use borrow.Author.Tests.{lt-ltb, le-ltb}
use Rattle.edges.specs.Says.{says_by}
use Rattle.rank.proofs.said.says_by.Goals as goal

pub returns-then-x-e : goal.returns-then-x-e
unfolding says_by
returns-then-x-e c =
    simp (
      c.verdict_at.ensures,
      c.why.ensures,
      ← c.sooner.ensures,
      ← c.sooner-2.ensures,
      ← c.sooner-x.ensures,
      lt-ltb _ _ c.if-x-e.true,
    )

pub returns : goal.returns
unfolding says_by
returns c =
    simp (
      ← c.first.ensures,
      ← c.verdict_at-7.ensures,
      ← c.first-at24.ensures,
      ← c.verdict_at-6.ensures,
      ← c.late_at-3.ensures,
      ← c.first-at25.ensures,
      ← c.verdict_at-5.ensures,
      ← c.first-at26.ensures,
      ← c.verdict_at-4.ensures,
      ← c.first-at28.ensures,
      ← c.verdict_at-3.ensures,
      ← c.late_at-2.ensures,
      ← c.first-at30.ensures,
      ← c.verdict_at-2.ensures,
      ← c.verdict_at-at31.ensures,
      ← c.late_at.ensures,
      le-ltb _ _ c.if-x-e.false,
      ← c.sooner-x.ensures,
      ← c.sooner-2.ensures,
      ← c.sooner.ensures,
    )
