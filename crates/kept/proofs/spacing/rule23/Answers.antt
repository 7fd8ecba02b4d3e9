-- An SRX later than the latest REF.
-- Assumes nothing.
use borrow.Author.Tests.{lt-ltb, le-ltb}
use Rattle.kept.proofs.spacing.rule23.Goals as goal

pub returns-then-s : goal.returns-then-s
returns-then-s c = simp (lt-ltb _ _ c.if-s.true, c.wide.ensures)

pub returns : goal.returns
returns c = simp (le-ltb _ _ c.if-s.false)
