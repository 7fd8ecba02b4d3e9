-- `verdict::opened` meets its contract: some bytes are opened, six at most.
-- Assumes nothing.
use Rattle.verdict.proofs.Counting.{opened-by}
use borrow.Author.Rules.{rules}
use Rattle.verdict.proofs.opened.Goals as goal

pub returns : goal.returns
returns c = let counted = c.read_full-n.ensures in opened-by _ c.begun.ensures _ counted.1 (search rules)
