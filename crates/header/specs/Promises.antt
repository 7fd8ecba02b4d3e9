-- What each public function answers, by name: cited by its `ensures`, and by its line in `proofs/Answers.antt` that two answers are
-- equal.
-- Assumes nothing.
use Rattle.std.specs.Prelude.{ℕ, List, ◌≡◌}
use Rattle.units.specs.declared.Clocks.{Clocks}
use Rattle.header.specs.declared.Header.{Header}
use Rattle.header.specs.Bytes.{Parsed, edition_for, parsed_of}

-- `parse`
abbrev pub Parse : (bytes : List ℕ) (edition : ℕ) (r : Parsed) → Type 0
Parse bytes edition r = r ≡ parsed_of edition bytes

-- `edition_for`
abbrev pub EditionFor : (bytes : List ℕ) (r : ℕ) → Type 0
EditionFor bytes r = r ≡ edition_for bytes

-- `Header::trcd` to `Header::trefi`, each with its count of `Counts.antt`
abbrev pub Counted : (count : Header → Clocks) (h : Header) (r : Clocks) → Type 0
Counted count h r = r ≡ count h
