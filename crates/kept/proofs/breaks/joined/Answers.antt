-- The lowest rule first.
-- Assumes nothing.
use Rattle.kept.proofs.breaks.joined.Goals as goal

pub returns : goal.returns
returns c = simp (← c.or_else.ensures, ← c.rule1.ensures, ← c.or_else-u.ensures, ← c.or_else-t.ensures)
