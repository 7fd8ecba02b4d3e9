-- The sooner of the banks' deadlines, one after the other, of the debt's and of the stay's.
-- Assumes nothing.
use Rattle.edges.specs.Clearing.{ClearTo}
use Rattle.rank.proofs.clearing.clear_of.Given as goal

abbrev pub invariant-loop-b : goal.invariant-loop-b
invariant-loop-b l = ClearTo l.chip.most l.s.banks l.s.edge l.x l.b
