-- The eight bytes of a record in edition 2: 02, Q-7.
-- Assumes nothing.
use Rattle.std.specs.Prelude.{ℕ, ◌+◌, ◌-◌, ◌*◌, ◌/◌, ◌%◌, ◌^◌, Bool, false, cond, not, ◌&&◌, ◌||◌, List, [], ◌∷◌, map, eqb, get_or}
use Rattle.records.specs.declared.Record.{Record}
use Rattle.records.specs.Pieces.{pieces}
use Rattle.wide.specs.declared.Wide.{Wide}

-- eight bytes as one number of 64 bits
unfoldable pub word64 : (b0 b1 b2 b3 b4 b5 b6 b7 : ℕ) → ℕ
word64 b0 b1 b2 b3 b4 b5 b6 b7 =
    b0 * 2 ^ 56 + b1 * 2 ^ 48 + b2 * 2 ^ 40 + b3 * 2 ^ 32 + b4 * 2 ^ 24 + b5 * 2 ^ 16 + b6 * 2 ^ 8 + b7

-- of a word of 64 bits, the field of `bits` bits that has `skipped` bits before it
abbrev pub field : (word skipped bits : ℕ) → ℕ
field word skipped bits = word / 2 ^ (64 - skipped - bits) % 2 ^ bits

-- a field of one bit
abbrev pub flag : (word skipped : ℕ) → Bool
flag word skipped = eqb (field word skipped 1) 1

-- "8-byte records with step 24, RESET, CKE, two CS, ODT, RAS, CAS, WE, BA 3, A 16, zero 13"
unfoldable pub fields_of : (word : ℕ) → Wide
fields_of w = record {
  step = field w 0 24;
  reset = flag w 24;
  cke = flag w 25;
  first = flag w 26;
  second = flag w 27;
  odt = flag w 28;
  pins = field w 29 3;
  bank = field w 32 3;
  a = field w 35 16;
  zero = field w 51 13;
}

-- the word, and the record, that starts at a place of the bytes
abbrev pub word_at : List ℕ → (at : ℕ) → ℕ
word_at bs i =
    word64 (get_or bs i 0) (get_or bs (i + 1) 0) (get_or bs (i + 2) 0) (get_or bs (i + 3) 0) (get_or bs (i + 4) 0) (get_or bs (i + 5) 0) (get_or bs (i + 6) 0)
    (get_or bs (i + 7) 0)

abbrev pub wide_at : List ℕ → (at : ℕ) → Wide
wide_at bs i = fields_of (word_at bs i)

-- the records of a section's bytes, eight bytes each; bytes that make no whole record give none
abbrev pub wides : List ℕ → List Wide
wides bs = map (λ xs. wide_at xs 0) (pieces 8 bs)

-- a pin's level as a bit
abbrev pub level : Bool → ℕ
level b = cond b 1 0

-- "each rank seeing its own CS": the record as the first or the second rank sees it
unfoldable pub rank_of : (second : Bool) → Wide → Record
rank_of second w = record {
  step = w.step;
  cke = w.cke;
  pins = level (cond second w.second w.first) * 8 + w.pins;
  bank = w.bank;
  a = w.a;
}

-- | 14 | zero bits set |
abbrev pub has_spare : List Wide → Bool
has_spare [] = false
has_spare (w ∷ ws) = not (eqb w.zero 0) || has_spare ws

-- "Back is allowed only where every record has these": RESET 1, the second CS 1, ODT 0
abbrev pub returns : Wide → Bool
returns w = w.reset && (w.second && not w.odt)

-- | 13 | a record can't go back |
abbrev pub cannot_return : List Wide → Bool
cannot_return [] = false
cannot_return (w ∷ ws) = not (returns w) || cannot_return ws
