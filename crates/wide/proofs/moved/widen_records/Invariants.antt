-- A record a turn.
-- Assumes nothing.
use Rattle.wide.proofs.Loops.{Widening}
use Rattle.wide.proofs.moved.widen_records.Given as goal

abbrev pub invariant-loop-i : goal.invariant-loop-i
invariant-loop-i l = Widening l.bytes l.initial.out l.out l.i
