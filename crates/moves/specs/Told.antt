-- What a number tells of a call: nothing was refused, or the refusal whose number it is.
-- Assumes nothing.
use Rattle.std.specs.Prelude.{ℕ, Bool, cond, ◌||◌, ◌&&◌, ◌==◌, nat_lt}
use Rattle.refusals.specs.Refusals.{number_of, refusal_of}

-- 0, or the number of a refusal; the bit of an eleven is less than 256
unfoldable pub is_told : ℕ → Bool
is_told n = n == 0 || (number_of (refusal_of n) == n && nat_lt n 65536)

-- a number that tells neither is read as 17
abbrev pub told_of : ℕ → ℕ
told_of n = cond (is_told n) n 17
