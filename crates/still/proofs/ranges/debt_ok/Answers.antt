-- Asleep or awake, one edge after the other.
-- Assumes nothing.
use mathlib.Core.Bool.{◌&&◌}
use Rattle.still.proofs.ranges.debt_ok.Goals as goal

pub returns-then-debt : goal.returns-then-debt
returns-then-debt c = rw c.if-debt.true (λ i. c.near.ensures i && c.near-then-debt.ensures i)

pub returns : goal.returns
returns c = rw c.if-debt.false (λ i. c.near-2.ensures i && c.near-3.ensures i)
