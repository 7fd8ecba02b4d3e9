-- The six header bytes and the refusals of opening: 01, "The recording".
-- Assumes nothing.
use Rattle.std.specs.Prelude.{ℕ, Result, Ok, Err, ◌/◌, Bool, cond, ◌&&◌, ◌||◌, List, length, get_or, eqb, ltb}
use Rattle.bits.specs.Bits.{word48, field, flag}
use Rattle.header.specs.declared.Header.{Header}
use Rattle.refusals.specs.declared.Refusal.{Refusal}
use Rattle.refusals.specs.Refusals.{refusal_of}
use Rattle.header.specs.Bins.{bin_of}

-- the first six bytes as one word
unfoldable pub header_word : List ℕ → ℕ
header_word bs = word48 (get_or bs 0 0) (get_or bs 1 0) (get_or bs 2 0) (get_or bs 3 0) (get_or bs 4 0) (get_or bs 5 0)

-- "edition 4 bits (1), bin 2, density 1 (0 = 1 Gb, 1 = 2 Gb), width 1 (0 = x8, 1 = x16), hot 1, zero 3, clock period in ps 12, zero 24"
abbrev pub edition : ℕ → ℕ
edition w = field w 0 4

abbrev pub bin : ℕ → ℕ
bin w = field w 4 2

abbrev pub dense : ℕ → Bool
dense w = flag w 6

abbrev pub wide : ℕ → Bool
wide w = flag w 7

abbrev pub hot : ℕ → Bool
hot w = flag w 8

abbrev pub zero_a : ℕ → ℕ
zero_a w = field w 9 3

abbrev pub period : ℕ → ℕ
period w = field w 12 12

abbrev pub zero_b : ℕ → ℕ
zero_b w = field w 24 24

abbrev pub header_of : ℕ → Header
header_of w = record { bin = bin w; dense = dense w; wide = wide w; hot = hot w; period = record { ps = period w } }

-- The edition that is asked for: register reading asks 1, a move the one that it starts from, and judging 2 "when the first four bits are 2",
-- also of a single byte, else 1.
unfoldable pub edition_for : List ℕ → ℕ
edition_for bs = cond (eqb (get_or bs 0 0 / 16) 2) 2 1

-- checks 2, 3, 4, in this order, where the edition e is asked for; 0: none
-- | 2 | edition is not 1 |, or not the one that is asked for
-- | 3 | a zero field is not zero |
-- | 4 | period under the bin's least, or over 3300 |
unfoldable pub fields_refusal : (e word : ℕ) → ℕ
fields_refusal e w =
    cond (eqb (edition w) e)
    (cond (eqb (zero_a w) 0 && eqb (zero_b w) 0)
    (cond (ltb (period w) (bin_of (bin w)).least || ltb 3300 (period w)) 4 0)
    3)
    2

-- | 1 | header is not 6 bytes |
unfoldable pub header_refusal : (e : ℕ) → List ℕ → ℕ
header_refusal e bs = cond (eqb (length bs) 6) (fields_refusal e (header_word bs)) 1

-- the header, or the refusal that has the number of the first check that fails
abbrev pub Parsed : Type 0
Parsed = Result Header Refusal

abbrev pub answer : (number : ℕ) → Header → Parsed
answer n h = cond (eqb n 0) (Ok h) (Err (refusal_of n))

unfoldable pub fields_of : (e word : ℕ) → Parsed
fields_of e w = answer (fields_refusal e w) (header_of w)

unfoldable pub parsed_of : (e : ℕ) → List ℕ → Parsed
parsed_of e bs = answer (header_refusal e bs) (header_of (header_word bs))
