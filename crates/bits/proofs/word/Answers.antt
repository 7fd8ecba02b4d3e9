-- `word` is `word48`: two bytes of 0 stand in front.
-- Assumes nothing.
use Rattle.std.proofs.Common.{arith}
use Rattle.bits.specs.Bits.{word48}
use Rattle.bits.proofs.word.Goals as goal

pub returns : goal.returns
unfolding word48
returns c = let h = c.from_be_bytes.ensures in omega (arith, h)
