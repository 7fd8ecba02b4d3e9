-- `row` is `row_of`.
-- Assumes nothing.
use borrow.Author.Rules.{rules}
use borrow.Author.Tests.{lt-ltb, le-ltb}
use Rattle.header.proofs.bins.row.Goals as goal

pub returns-then-bin-lt4 : goal.returns-then-bin-lt4
returns-then-bin-lt4 c = record { value = simp (lt-ltb _ _ c.if-bin-lt4.true); upper_bound = search rules }

pub returns : goal.returns
returns c = record { value = simp (le-ltb _ _ c.if-bin-lt4.false); upper_bound = search rules }
