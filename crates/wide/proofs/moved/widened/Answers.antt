-- The word of edition 2.
-- Assumes nothing.
use Rattle.wide.proofs.Packing.{widened_word}
use Rattle.wide.proofs.moved.widened.Goals as goal

pub returns : goal.returns
returns c = widened_word c.args.w
