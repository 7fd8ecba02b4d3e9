-- CL less the code, never below 0.
-- Assumes nothing.
use borrow.Author.Tests.{eq-eqb, ne_eqb}
use Rattle.codes.specs.Codes.{al}
use native.Mathlib.Omega.{arith}
use Rattle.codes.proofs.al.Goals as goal

pub returns-then-less-eq0 : goal.returns-then-less-eq0
unfolding al
returns-then-less-eq0 c = simp (eq-eqb _ _ c.if-less-eq0.true)

pub returns-then-most-less : goal.returns-then-most-less
unfolding al
returns-then-most-less c = rw (ne_eqb _ _ c.if-less-eq0.false, ← c.cl-most.ensures) (omega arith)

pub returns : goal.returns
unfolding al
returns c = rw (ne_eqb _ _ c.if-less-eq0.false, ← c.cl-most.ensures)
