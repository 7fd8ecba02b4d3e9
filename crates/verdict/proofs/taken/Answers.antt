-- `verdict::taken` meets its contract: some bytes are a block, 60,000 at most.
-- Assumes nothing.
use Rattle.verdict.proofs.Counting.{took_by}
use native.Mathlib.Omega.{arith}
use Rattle.verdict.proofs.taken.Goals as goal

pub returns : goal.returns
returns c = let counted = c.read_full-n.ensures in took_by _ _ c.over.ensures _ counted.1 (omega (arith, counted.0, c.requires))
