-- What remains leads to what the whole section gives.
-- Assumes nothing.
use Rattle.std.proofs.Common.{map}
use Rattle.records.proofs.Turns.{Going}
use Rattle.wide.specs.Wide.{wide_at}
use Rattle.wide.specs.Seen.{seen_of}
use Rattle.wide.proofs.checks.seen_in.Given as goal

abbrev pub invariant-loop-eight : goal.invariant-loop-eight
invariant-loop-eight l = Going (λ s ps. seen_of s (map (λ p. wide_at p 0) ps)) l.initial.s l.eight-items l.s l.eight-index
