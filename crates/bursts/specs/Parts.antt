-- What the inner functions of `src/lib.rt` answer: where a write starts, and words put into a buffer.
-- Assumes nothing.
use Rattle.std.specs.Prelude.{ℕ, cond, List, eqb, ltb, length}
use Rattle.laws.specs.Lent.{Wrote}
use Rattle.bursts.specs.Burst.{cleared}

-- writes start at s with its low three bits cleared (eight) or low two (four)
abbrev pub write_start : (length s : ℕ) → ℕ
write_start length s = cond (eqb length 8) (cleared 3 s) (cleared 2 s)

-- words go to the start of a buffer that has room for them
abbrev pub Put : (words before : List ℕ) (r : ℕ) (after : List ℕ) → Type 0
Put words before r after = Wrote (cond (ltb (length before) (length words)) 9 0) words before r after
