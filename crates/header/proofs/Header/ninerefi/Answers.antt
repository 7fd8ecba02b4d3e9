-- `ninerefi`: nine intervals, which fit.
-- Assumes nothing.
use native.Mathlib.Omega.{arith}
use Rattle.header.proofs.Bounds.{bounds}
use Rattle.header.proofs.Header.ninerefi.Goals as goal

pub overflow_mul-result : goal.overflow_mul-result
overflow_mul-result c = rw c.trefi-c.ensures (omega (arith, (bounds c.args.self).refi))

pub returns : goal.returns
returns c = rw c.trefi-c.ensures
