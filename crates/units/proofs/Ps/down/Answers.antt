-- `Ps::down` answers by `down`.
-- Assumes nothing.
use borrow.Author.Tests.{eq-eqb, ne_eqb}
use Rattle.units.specs.Round.{down}
use Rattle.units.proofs.Ps.down.Goals as goal

pub returns-then-p-eq0 : goal.returns-then-p-eq0
unfolding down
returns-then-p-eq0 c = simp (eq-eqb _ _ c.if-p-eq0.true)

pub returns : goal.returns
unfolding down
returns c = simp (ne_eqb _ _ c.if-p-eq0.false)
