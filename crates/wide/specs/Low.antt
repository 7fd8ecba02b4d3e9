-- Words whose first byte is the least significant one: in these records are narrowed many at a time. That what they hold is `narrow` of the
-- bytes is shown in proofs/Turning.antt.
-- Assumes nothing.
use Rattle.std.specs.Prelude.{ℕ, ◌+◌, ◌*◌, ◌/◌, ◌%◌, ◌<◌, Bool, false, true, cond, not, List, [], ◌∷◌, ◌≡◌, eqb, length, take, get_or}
use Rattle.wide.specs.Spread.{spread}
use Rattle.wide.specs.Wide.{fields_of, wide_at, wides, rank_of, has_spare}
use Rattle.wide.specs.Moved.{packed, bytes6}

-- the six first bytes of a word, and those of so many words
unfoldable pub low6 : ℕ → List ℕ
low6 n = n % 256 ∷ n / 256 % 256 ∷ n / 65536 % 256 ∷ n / 16777216 % 256 ∷ n / 4294967296 % 256 ∷ n / 1099511627776 % 256 ∷ []

abbrev pub lows : (count : ℕ) → List ℕ → List ℕ
lows n ws = spread low6 (take n ws)

-- The word that a rank sees: the step stays, CKE goes up by one bit and its CS to the bit below it; RAS, CAS, WE and the upper bits of A go up by three
-- bits in their own byte, BA and the lower ones to the byte before.
abbrev pub upper : ℕ → ℕ
upper x = x / 16777216 % 8 * 134217728 + x / 4294967296 % 32 * 34359738368 + x / 1099511627776 % 32 * 8796093022208

abbrev pub lower : ℕ → ℕ
lower x = x / 137438953472 % 8 * 16777216 + x / 35184372088832 % 8 * 4294967296 + x / 9007199254740992 % 8 * 1099511627776

abbrev pub shared : ℕ → ℕ
shared x = x % 16777216 + upper x + lower x

unfoldable pub seen_low : (second : Bool) → ℕ → ℕ
seen_low second x = cond second
    (shared x + x / 1073741824 % 2 * 2147483648 + x / 268435456 % 2 * 1073741824)
    (shared x + x / 536870912 % 4 * 1073741824)

-- the 13 bits that are to be zero, 0 just if all are
unfoldable pub spare_low : ℕ → ℕ
spare_low x = x / 281474976710656 % 32 + x / 72057594037927936 * 256

-- x has the bytes of the record w the other way round
pub record Turned (x w : ℕ) : Type 0 where
  pub seen : (second : Bool) → low6 (seen_low second x) ≡ bytes6 (packed (rank_of second (fields_of w)))
  pub spare : eqb (spare_low x) 0 ≡ eqb (fields_of w).zero 0
  pub few : spare_low x < 65536

-- the words of the first n records, of 125 at most, as each rank sees them, and whether zero bits are set: spare is then not 0
pub record Looked (bs : List ℕ) (n : ℕ) (one two : List ℕ) (spare : ℕ) : Type 0 where
  pub long : (length one ≡ 125) × (length two ≡ 125)
  pub first : (i : ℕ) → i < n → low6 (get_or one i 0) ≡ bytes6 (packed (rank_of false (wide_at bs (8 * i))))
  pub second : (i : ℕ) → i < n → low6 (get_or two i 0) ≡ bytes6 (packed (rank_of true (wide_at bs (8 * i))))
  pub seen : not (eqb spare 0) ≡ has_spare (wides (take (8 * n) bs))
