-- Where a refused record begins, in the bytes of its section.
-- Assumes nothing.
use Rattle.std.specs.Prelude.{ℕ, ◌+◌, ◌-◌, ◌*◌, ◌%◌, cond, List, [], ◌∷◌, length, ◌==◌}
use Rattle.records.specs.declared.Record.{Record}
use Rattle.records.specs.Record.{records}
use Rattle.running.specs.Ranges.{limit}

-- the records before the first of step 0
abbrev pub before_zero : List Record → ℕ
before_zero [] = 0
before_zero (r ∷ rs) = cond (r.step == 0) 0 (before_zero rs + 1)

-- behind count records: | 5 | section length not a multiple of 6 |, | 6 | some record's step is 0 |, | 7 | records would pass the limit |
unfoldable pub refused_at : (refused : ℕ) → (bytes : List ℕ) → (count : ℕ) → ℕ
refused_at n bs count =
    cond (n == 5) (length bs - length bs % 6)
    (cond (n == 6) (6 * before_zero (records bs)) (cond (n == 7) (6 * (limit - count)) 0))
