-- One place more of the edges that are looked at.
-- Assumes nothing.
use Prim.Native.Nat.{ℕ, suc, ◌+◌}
use native.Mathlib.Omega.{arith}
use mathlib.Core.Bool.{◌&&◌}
use mathlib.Core.List.{List}
use mathlib.Core.Path.{◌≡◌, ap}
use lib.Dec.{leb}
use lib.ListN.{get_or}
use Rattle.running.specs.Ranges.{last_edge}
use Rattle.edges.specs.Ranges.{edges_ok}

pub one_more_lem : (xs : List ℕ) (i : ℕ) → edges_ok xs i && leb (get_or xs i 0) last_edge ≡ edges_ok xs (i + 1)
unfolding edges_ok
one_more_lem xs i = let e : suc i ≡ i + 1 = omega arith in ap (edges_ok xs) e
