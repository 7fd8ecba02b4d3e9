-- What remains has a step of 0 just if the whole section has.
-- Assumes nothing.
use Rattle.std.proofs.Common.{map, ◌≡◌, drop}
use Rattle.records.specs.Record.{record_at, has_zero}
use Rattle.wide.proofs.checks.step_of_zero.Given as goal

abbrev pub invariant-loop-six : goal.invariant-loop-six
invariant-loop-six l = has_zero (map (λ p. record_at p 0) (drop l.six-index l.six-items)) ≡ has_zero (map (λ p. record_at p 0) l.six-items)
