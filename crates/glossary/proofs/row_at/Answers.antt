-- The row is read from its place in the table.
-- Assumes nothing.
use Rattle.glossary.specs.Glossary.{rows, row_of}
use Rattle.glossary.proofs.Places.{within_is}
use Rattle.glossary.proofs.row_at.Goals as goal

pub returns : goal.returns
unfolding row_of rows
returns c = rw (c.min.ensures, within_is 27 c.args.place)
