-- The chunks are the pieces.
-- Assumes nothing.
use Rattle.std.proofs.Common.{◌∙◌}
use Rattle.records.proofs.Turns.{chunks_are}
use Rattle.records.proofs.sixes.Goals as goal

pub returns : goal.returns
returns c = c.as_chunks.ensures.front ∙ chunks_are 6 _ _
