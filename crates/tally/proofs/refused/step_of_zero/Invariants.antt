-- The records up to the first of step 0: those before the place, and those that remain.
-- Assumes nothing.
use Rattle.std.proofs.Common.{◌+◌, map}
use Rattle.records.specs.Record.{record_at}
use Rattle.tally.specs.Refused.{before_zero}
use Rattle.records.proofs.Turns.{Going}
use Rattle.tally.proofs.refused.step_of_zero.Given as goal

abbrev pub invariant-loop-i : goal.invariant-loop-i
invariant-loop-i l = Going (λ n ps. n + before_zero (map (λ p. record_at p 0) ps)) 0 l.records l.i l.i
