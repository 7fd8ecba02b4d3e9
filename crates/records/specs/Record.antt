-- The six bytes of a record: 01, "The recording".
-- Assumes nothing.
use Rattle.std.specs.Prelude.{ℕ, ◌+◌, Bool, true, false, cond, List, [], ◌∷◌, map, eqb, get_or}
use Rattle.bits.specs.Bits.{word48, field, flag}
use Rattle.records.specs.declared.Record.{Record}
use Rattle.records.specs.Pieces.{pieces}

-- "step 24 (edges since the record before; for the first, since edge 0), CKE, CS, RAS, CAS, WE 1 each as pin levels, BA 3, A15..A0 16"
unfoldable pub fields_of : (word : ℕ) → Record
fields_of w = record { step = field w 0 24; cke = flag w 24; pins = field w 25 4; bank = field w 29 3; a = field w 32 16 }

abbrev pub record_of : (b0 b1 b2 b3 b4 b5 : ℕ) → Record
record_of b0 b1 b2 b3 b4 b5 = fields_of (word48 b0 b1 b2 b3 b4 b5)

-- the word, and the record, that starts at a place of the bytes
abbrev pub word_at : List ℕ → (at : ℕ) → ℕ
word_at bs i = word48 (get_or bs i 0) (get_or bs (i + 1) 0) (get_or bs (i + 2) 0) (get_or bs (i + 3) 0) (get_or bs (i + 4) 0) (get_or bs (i + 5) 0)

abbrev pub record_at : List ℕ → (at : ℕ) → Record
record_at bs i = fields_of (word_at bs i)

-- those of a section's bytes, six bytes each; bytes that make no whole record give none
abbrev pub words : List ℕ → List ℕ
words bs = map (λ xs. word_at xs 0) (pieces 6 bs)

abbrev pub records : List ℕ → List Record
records bs = map (λ xs. record_at xs 0) (pieces 6 bs)

-- | 6 | some record's step is 0 |
abbrev pub has_zero : List Record → Bool
has_zero [] = false
has_zero (r ∷ rs) = cond (eqb r.step 0) true (has_zero rs)

-- the edges that the records take
abbrev pub steps_of : List Record → ℕ
steps_of [] = 0
steps_of (r ∷ rs) = r.step + steps_of rs
