-- A deadline that passes by then, or clean.
-- Assumes nothing.
use borrow.Author.Tests.{lt-ltb, le-ltb}
use mathlib.Core.Path.{ap, ◌∙◌}
use Rattle.running.specs.Said.{verdict_at}
use Rattle.rank.proofs.closing.told.Goals as goal

pub returns-then-x-end : goal.returns-then-x-end
returns-then-x-end c = c.verdict_at.ensures ∙ ap (verdict_at _ 0) c.why.ensures ∙ rw (lt-ltb _ _ c.if-x-end.true)

pub returns : goal.returns
returns c = c.clean_at.ensures ∙ rw (le-ltb _ _ c.if-x-end.false)
