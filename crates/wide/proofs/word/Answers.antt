-- `word` is `word64`.
-- Assumes nothing.
use Rattle.std.proofs.Common.{arith}
use Rattle.wide.specs.Wide.{word64}
use Rattle.wide.proofs.word.Goals as goal

pub returns : goal.returns
unfolding word64
returns c = let h = c.from_be_bytes.ensures in omega (arith, h)
