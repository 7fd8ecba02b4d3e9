-- The banks below b.
-- Assumes nothing.
use lib.Dec.{ltb}
use lib.ListN.{get_or}
use mathlib.Core.Path.{◌≡◌}
use Rattle.laws.specs.Any.{any_of}
use Rattle.rank.proofs.slow.any_open.Given as goal

abbrev pub invariant-loop-b : goal.invariant-loop-b
invariant-loop-b l = l.open ≡ any_of (λ i. ltb (get_or l.shutno i 0) (get_or l.actno i 0)) l.b
