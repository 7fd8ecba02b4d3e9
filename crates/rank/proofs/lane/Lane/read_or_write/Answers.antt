-- A turn of the quick loop.
-- Assumes nothing.
use mathlib.Core.Path.{refl}
use Rattle.edges.proofs.Loop.{turns-column, turns-auto}
use Rattle.rank.specs.Lane.{track_at}
use Rattle.rank.proofs.lane.Lane.read_or_write.Goals as goal

pub returns-then-r-eq1-clause-came : goal.returns-then-r-eq1-clause-came
returns-then-r-eq1-clause-came c = λ _. rw (c.shut.ensures, c.col_start-start.ensures.value, c.column.ensures) (record {
  turns = λ x m p q. turns-auto c.args.r (track_at c.args.self.now x m) p q _ _ _ _ refl c.requires.pins.1 c.requires.pins.0 c.if-y-reset.false c.may_column.ensures c.if-r-eq1.true;
  same = refl;
})

pub returns-clause-came : goal.returns-clause-came
returns-clause-came c = λ _. rw c.column.ensures (record {
  turns = λ x m p q. turns-column c.args.r (track_at c.args.self.now x m) p q _ _ _ _ refl c.requires.pins.1 c.requires.pins.0 c.if-y-reset.false c.may_column.ensures c.if-r-eq1.false;
  same = refl;
})
