-- The word of the six bytes.
-- Assumes nothing.
use mathlib.Core.Path.{ap}
use Rattle.records.specs.Record.{fields_of}
use Rattle.wide.proofs.moved.narrow_word.Goals as goal

pub returns : goal.returns
returns c = ap fields_of c.word.ensures
