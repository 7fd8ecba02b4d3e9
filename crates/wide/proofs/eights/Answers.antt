-- The chunks are the pieces.
-- Assumes nothing.
use Rattle.std.proofs.Common.{◌∙◌}
use Rattle.records.proofs.Turns.{chunks_are}
use Rattle.wide.proofs.eights.Goals as goal

pub returns : goal.returns
returns c = c.as_chunks.ensures.front ∙ chunks_are 8 _ _
