-- A word a turn, and the last one.
-- Assumes nothing.
use Rattle.wide.proofs.Laying.{Laying}
use Rattle.wide.proofs.low.lay.Given as goal

abbrev pub invariant-loop-i : goal.invariant-loop-i
invariant-loop-i l = Laying l.words l.initial.out l.at l.out l.i
