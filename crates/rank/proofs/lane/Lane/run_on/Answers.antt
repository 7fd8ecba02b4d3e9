-- The lane, and the floor put in.
-- Assumes nothing.
use mathlib.Core.Path.{subst}
use Rattle.edges.specs.declared.Floor.{Floor}
use Rattle.edges.specs.Floors.{settled}
use Rattle.edges.specs.Running.{rest_in, track_of}
use Rattle.edges.specs.Lane.{Smoothly}
use Rattle.edges.proofs.Reaching.{reached-lane}
use Rattle.rank.specs.Lane.{track, rest}
use Rattle.rank.proofs.lane.Lane.run_on.Goals as goal

pub returns-clause-goes_on : goal.returns-clause-goes_on
unfolding settled
returns-clause-goes_on c =
    let s = c.args.self.now.rank in let m = c.smoothly-at.new.self in let n = c.smoothly-at.result in
    rw c.settle.ensures (reached-lane c.args.chip c.args.bytes.now s c.args.from c.requires.reached (rest m) (track m) n
    (subst (λ (f : Floor). Smoothly c.args.chip c.args.bytes.now (rest_in s) (track_of s f) c.args.from (rest m) (track m) n) c.requires.floor c.smoothly-at.ensures))
