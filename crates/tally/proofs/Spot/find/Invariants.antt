-- The search in what remains answers what the search in the whole section does.
-- Assumes nothing.
use Rattle.std.proofs.Common.{map}
use Rattle.records.specs.Record.{word_at}
use Rattle.tally.specs.Places.{find_of}
use Rattle.records.proofs.Turns.{Going}
use Rattle.tally.proofs.Spot.find.Given as goal

abbrev pub invariant-loop-six : goal.invariant-loop-six
invariant-loop-six l = Going (λ s ps. find_of l.n s (map (λ p. word_at p 0) ps)) l.initial.s l.six-items l.s l.six-index
