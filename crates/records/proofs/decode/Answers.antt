-- The word of the bytes, and its fields.
-- Assumes nothing.
use Rattle.records.proofs.decode.Goals as goal

pub returns : goal.returns
returns c = simp (c.fields.ensures, c.word.ensures)
