-- What remains leads to what the whole section gives.
-- Assumes nothing.
use Rattle.std.proofs.Common.{map, ◌≡◌, ◌≤◌, ◌*◌, drop}
use Rattle.wide.specs.Wide.{wide_at}
use Rattle.wide.specs.Steps.{steps_seen}
use Rattle.wide.proofs.Stepping.{steps_from}
use Rattle.wide.proofs.sums.summed.Given as goal

abbrev pub invariant-loop-eight : goal.invariant-loop-eight
invariant-loop-eight l =
    (l.sum ≤ l.eight-index * 16777216)
    × (steps_from l.sum l.zero l.spare (map (λ p. wide_at p 0) (drop l.eight-index l.eight-items)) ≡ steps_seen (map (λ p. wide_at p 0) l.eight-items))
