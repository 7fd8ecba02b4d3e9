-- The greater of the count and the floor.
-- Assumes nothing.
use Rattle.units.specs.declared.Clocks.{Clocks}
use mathlib.Core.Path.{ap}
use Rattle.header.specs.Counts.{clocks}
use native.Mathlib.Omega.{arith}
use Rattle.header.proofs.counts.least_or.Goals as goal

pub returns-then-c-floor : goal.returns-then-c-floor
returns-then-c-floor c = let e = ap (λ (x : Clocks). x.clocks) c.least-c.ensures in ap clocks (omega arith)

pub returns : goal.returns
returns c = let e = ap (λ (x : Clocks). x.clocks) c.least-c.ensures in ap clocks (omega arith)
