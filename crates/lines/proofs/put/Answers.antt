-- A text is copied behind what is there.
-- Assumes nothing.
use native.Mathlib.Omega.{arith}
use Rattle.lines.proofs.Texts.{copied}
use Rattle.lines.proofs.put.Goals as goal

pub returns : goal.returns
returns c = copied _ _ _ c.copy.ensures.count (omega arith) c.copy.ensures.put
