-- A turn of the quick loop.
-- Assumes nothing.
use mathlib.Core.Path.{refl, ap, ◌∙◌, sym}
use mathlib.Core.Bool.{Bool, not, ◌||◌}
use Rattle.edges.proofs.Loop.{turns-act}
use Rattle.rank.specs.Lane.{track_at}
use Rattle.rank.proofs.lane.Lane.activate.Goals as goal

pub returns-clause-came : goal.returns-clause-came
returns-clause-came c = λ _. rw c.act.ensures (record {
  turns = λ x m p q. turns-act c.args.r (track_at c.args.self.now x m) p q _ _ _ c.requires.pins
      (ap (λ (v : Bool). not v || not c.may_activate.result) (sym c.all_written.ensures) ∙ c.if-all_written-may_activate.false) c.may_activate.ensures;
  same = refl;
})
