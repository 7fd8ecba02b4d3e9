-- By the edition.
-- Assumes nothing.
use borrow.Author.Tests.{eq-eqb, ne_eqb}
use Rattle.judge.specs.Ranges.{ranks_agree}
use Rattle.judge.proofs.calls.ranks_agree.Goals as goal

pub returns-then-s-eq2 : goal.returns-then-s-eq2
unfolding ranks_agree
returns-then-s-eq2 c = rw (eq-eqb _ _ c.if-s-eq2.true) (simp c.in_range.ensures)

pub returns : goal.returns
unfolding ranks_agree
returns c = rw (ne_eqb _ _ c.if-s-eq2.false)
