-- What remains to be passed leads to where the whole section leads.
-- Assumes nothing.
use Rattle.std.proofs.Common.{map}
use Rattle.records.specs.Record.{word_at}
use Rattle.tally.specs.Places.{passed_of}
use Rattle.records.proofs.Turns.{Going}
use Rattle.tally.proofs.Spot.passed.Given as goal

abbrev pub invariant-loop-six : goal.invariant-loop-six
invariant-loop-six l = Going (λ s ps. passed_of s (map (λ p. word_at p 0) ps)) l.initial.s l.six-items l.s l.six-index
