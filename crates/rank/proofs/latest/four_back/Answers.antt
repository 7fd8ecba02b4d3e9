-- The edge of that ACT is near enough.
-- Assumes nothing.
use Prim.Native.Nat.{◌+◌, ◌%◌}
use native.Mathlib.Omega.{arith}
use Rattle.rank.proofs.latest.four_back.Goals as goal

pub overflow_add-at : goal.overflow_add-at
overflow_add-at c = omega (arith, c.requires.by_index ((c.args.acts.turn + 1) % 4) (omega arith))
