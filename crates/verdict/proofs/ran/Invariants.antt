-- The run is over all that was read, block after block.
-- Assumes nothing.
use Rattle.std.proofs.Common.{◌≡◌, ◌*◌, length}
use Rattle.verdict.proofs.Reading.{Reads}
use Rattle.verdict.proofs.ran.Given as goal

abbrev pub invariant-loop-turn : goal.invariant-loop-turn
invariant-loop-turn l = (length l.space ≡ 60000) × Reads l.initial.run l.run (l.turn * 7500)
