-- A NOP or a DES.
-- Assumes nothing.
use mathlib.Core.Path.{refl}
use Rattle.edges.proofs.Loop.{turns-nop}
use Rattle.rank.specs.Lane.{track_at}
use Rattle.rank.proofs.lane.Lane.frequent.Goals as goal

pub returns-then-r-gt6-clause-came : goal.returns-then-r-gt6-clause-came
returns-then-r-gt6-clause-came c = λ _. record {
  turns = λ x m p q. turns-nop c.args.r (track_at c.args.self.now x m) p q _ _ _ c.if-r-gt6.true;
  same = refl;
}
