-- The steps of a section's records, and what refuses it: 02, Q-7. Both ranks have the same steps.
-- Assumes nothing.
use Rattle.std.specs.Prelude.{false, List, map}
use Rattle.records.specs.Record.{steps_of, has_zero}
use Rattle.wide.specs.declared.Wide.{Wide}
use Rattle.wide.specs.declared.Steps.{Steps}
use Rattle.wide.specs.Wide.{rank_of, has_spare}

-- their sum; | 6 | some record's step is 0 |, | 14 | zero bits set |
abbrev pub steps_seen : List Wide → Steps
steps_seen ws = record { sum = steps_of (map (rank_of false) ws); zero = has_zero (map (rank_of false) ws); spare = has_spare ws }
