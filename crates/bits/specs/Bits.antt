-- Bit-packed fields: 01, "The recording": "Fields are bit-packed, most significant first."
-- Assumes nothing.
use Rattle.std.specs.Prelude.{ℕ, ◌+◌, ◌-◌, ◌*◌, ◌/◌, ◌%◌, ◌^◌, Bool, List, get_or, eqb}

-- six bytes as one number of 48 bits
unfoldable pub word48 : (b0 b1 b2 b3 b4 b5 : ℕ) → ℕ
word48 b0 b1 b2 b3 b4 b5 = b0 * 2 ^ 40 + b1 * 2 ^ 32 + b2 * 2 ^ 24 + b3 * 2 ^ 16 + b4 * 2 ^ 8 + b5

-- the same of a list's first six
abbrev pub word_of : List ℕ → ℕ
word_of bs = word48 (get_or bs 0 0) (get_or bs 1 0) (get_or bs 2 0) (get_or bs 3 0) (get_or bs 4 0) (get_or bs 5 0)

-- of a word of 48 bits, the field of `bits` bits that has `skipped` bits before it
abbrev pub field : (word skipped bits : ℕ) → ℕ
field word skipped bits = word / 2 ^ (48 - skipped - bits) % 2 ^ bits

-- a field of one bit
abbrev pub flag : (word skipped : ℕ) → Bool
flag word skipped = eqb (field word skipped 1) 1
