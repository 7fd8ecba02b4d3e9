-- What remains, counted into the tally so far, is the whole section counted into the tally handed in; and no count is larger than its records allow.
-- Assumes nothing.
use Rattle.std.proofs.Common.{ℕ, ◌+◌, ◌≤◌, map, slice_index}
use Rattle.records.specs.Record.{record_at}
use Rattle.tally.specs.Tally.{largest, fold_of}
use Rattle.records.proofs.Turns.{Going}
use Rattle.tally.proofs.fold.Given as goal

abbrev pub invariant-loop-six : goal.invariant-loop-six
invariant-loop-six l =
    Going (λ t ps. fold_of t (map (λ p. record_at p 0) ps)) l.initial.n l.six-items l.n l.six-index
    × ((k : ℕ) → slice_index l.n.counts k ≤ largest + l.six-index)
