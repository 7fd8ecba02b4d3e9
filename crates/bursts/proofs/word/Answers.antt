-- `bursts::word` meets its contract: the xor of two bits is below 2, so that nothing wraps.
-- Assumes nothing.
use Prim.Native.Nat.{◌/◌}
use native.Mathlib.Omega.{arith}
use Rattle.bursts.proofs.Answers.{bits-differ}
use Rattle.bursts.proofs.word.Goals as goal

pub overflow_mul-result : goal.overflow_mul-result
overflow_mul-result c = omega (arith, bits-differ (c.args.s / 4) (c.args.i / 4))

pub overflow_add-result-2 : goal.overflow_add-result-2
overflow_add-result-2 c = omega (arith, bits-differ (c.args.s / 4) (c.args.i / 4))
