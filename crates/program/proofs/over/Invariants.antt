-- The sections that are left give the whole block's run.
-- Assumes nothing.
use Rattle.std.proofs.Common.{◌≡◌, ◌-◌}
use Rattle.program.specs.Program.{ran_over}
use Rattle.program.proofs.over.Given as goal

abbrev pub invariant-loop-turn : goal.invariant-loop-turn
invariant-loop-turn l = ran_over (10 - l.turn) l.run l.rest ≡ ran_over 10 l.initial.run l.block
