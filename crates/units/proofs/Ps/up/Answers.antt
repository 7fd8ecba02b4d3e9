-- `Ps::up` answers by `up`. Its sum fits, since there are at most as many clocks as picoseconds.
-- Assumes nothing.
use borrow.Author.Tests.{eq-eqb, ne_eqb}
use native.Mathlib.Omega.{arith}
use Rattle.units.specs.Round.{up}
use Rattle.units.proofs.Rounding.{up-most}
use Rattle.units.proofs.Ps.up.Goals as goal

pub returns-then-p-eq0 : goal.returns-then-p-eq0
unfolding up
returns-then-p-eq0 c = simp (eq-eqb _ _ c.if-p-eq0.true)

pub returns-then-t-p-eq0 : goal.returns-then-t-p-eq0
unfolding up
returns-then-t-p-eq0 c = simp (ne_eqb _ _ c.if-p-eq0.false, eq-eqb _ _ c.if-t-p-eq0.true)

pub overflow_add-result : goal.overflow_add-result
unfolding up
overflow_add-result c = let a = c.args in
    omega (arith, simp (ne_eqb _ _ c.if-p-eq0.false, ne_eqb _ _ c.if-t-p-eq0.false) at (up-most a.self.ps a.period.ps))

pub returns : goal.returns
unfolding up
returns c = simp (ne_eqb _ _ c.if-p-eq0.false, ne_eqb _ _ c.if-t-p-eq0.false)
