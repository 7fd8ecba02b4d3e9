-- The first 1,048,576 records, or all.
-- Assumes nothing.
use native.Mathlib.Omega.{arith}
use mathlib.Core.Path.{sym, ◌∙◌}
use lib.ListN.{length-take}
use Rattle.wide.proofs.Stepping.{at_most, steps_all}
use Rattle.wide.proofs.sums.steps_in.Goals as goal

pub slice_bounds-summed-end : goal.slice_bounds-summed-end
slice_bounds-summed-end c = omega (arith, length-take 8388608 c.args.bytes.now, c.if-bytes-gt-MOST.true)

pub summed-requires : goal.summed-requires
summed-requires c = at_most c.args.bytes.now

pub returns : goal.returns
returns c = c.summed-2.ensures ∙ sym (steps_all c.args.bytes.now c.if-bytes-gt-MOST.false)
