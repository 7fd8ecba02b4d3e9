-- By the edition.
-- Assumes nothing.
use borrow.Author.Tests.{eq-eqb, ne_eqb}
use Rattle.judge.proofs.calls.second_verdict.Goals as goal

pub returns-then-s-eq2 : goal.returns-then-s-eq2
returns-then-s-eq2 c = rw (eq-eqb _ _ c.if-s-eq2.true) c.so_far.ensures

pub returns : goal.returns
returns c = rw (ne_eqb _ _ c.if-s-eq2.false) c.none.ensures
