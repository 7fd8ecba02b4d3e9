-- The lowest of the banks so far.
-- Assumes nothing.
use mathlib.Core.Path.{◌≡◌}
use Rattle.answers.specs.Answer.{lowest}
use Rattle.running.specs.Breaks.{barred_at}
use Rattle.kept.proofs.breaks.first_barred.Given as goal

abbrev pub invariant-loop-k : goal.invariant-loop-k
invariant-loop-k l = l.first ≡ lowest (barred_at l.c l.k-items l.e) l.k-index
