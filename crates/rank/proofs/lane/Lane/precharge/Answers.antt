-- A turn of the quick loop.
-- Assumes nothing.
use mathlib.Core.Path.{refl}
use Rattle.edges.proofs.Loop.{turns-pre}
use Rattle.rank.specs.Lane.{track_at}
use Rattle.rank.proofs.lane.Lane.precharge.Goals as goal

pub returns-clause-came : goal.returns-clause-came
returns-clause-came c = λ _. rw c.shut.ensures (record {
  turns = λ x m p q. turns-pre c.args.r (track_at c.args.self.now x m) p q _ _ _ c.requires.pins c.if-r-may_precharge.false c.may_precharge.ensures;
  same = refl;
})
