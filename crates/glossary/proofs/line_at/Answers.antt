-- The row, whether it is its kind's first, and its kind's count.
-- Assumes nothing.
use Rattle.glossary.specs.Glossary.{line_of}
use Rattle.glossary.proofs.line_at.Goals as goal

pub returns : goal.returns
unfolding line_of
returns c = simp (c.row_at-w.ensures, c.place_of-first.ensures.0, c.count_in-n.ensures)
