-- `verdict::judged` meets its contract: opening counts no record, and what is read is an input.
-- Assumes nothing.
use Rattle.verdict.proofs.Counting.{opened-none}
use Rattle.verdict.proofs.Reading.{judged-by}
use Rattle.verdict.proofs.judged.Goals as goal

pub ran-requires : goal.ran-requires
ran-requires c = opened-none _ c.opened.ensures

pub returns : goal.returns
returns c = judged-by _ _ c.opened.ensures c.ran.ensures
