-- What the bytes that `manilaply_judge` leaves mean, in the words of the rules: 01, "A verdict is written in 20 bytes".
-- Assumes nothing.
use Rattle.std.specs.Prelude.{ℕ, ◌≤◌, ◌<◌, ◌≡◌, ◌↔◌, Bool, List, get_or}
use Rattle.header.specs.Bytes.{header_word, header_of}
use Rattle.chip.specs.declared.Chip.{Chip}
use Rattle.chip.specs.Chip.{chip_of}
use Rattle.answers.specs.declared.Verdict.{Verdict}
use Rattle.answers.specs.Back.{verdict_in}
use Rattle.rules.specs.Past.{number}
use Rattle.sections.specs.Recording.{header_bytes, past}
use Rattle.means.specs.Breaks.{BreaksAt}
use Rattle.means.specs.Means.{Broken-means}

-- the part that a recording's header tells
abbrev pub part : List ℕ → Chip
part bs = chip_of (header_of (header_word (header_bytes bs)))

-- "Clean: rule, partner, needed, found are 0, record is the number of records, edge is the end edge"
abbrev pub clean_verdict : (records end : ℕ) → Verdict
clean_verdict n end = record { outcome = 0; rule = 0; number = n; partner = 0; edge = end; needed = 0; found = 0 }

-- of a rank, whose verdict stands at the front of the bytes
pub record Meaning (second : Bool) (recording : List ℕ) (end : ℕ) (bytes : List ℕ) : Type 0 where
  -- byte 0 is 0 exactly when nothing breaks any rule up to the end edge
  pub clean : (get_or bytes 0 0 ≡ 0) ↔ ((t rule : ℕ) → 0 < t → t ≤ end → BreaksAt (part recording) (past second recording) t rule → ⊥)
  pub clean-fields : get_or bytes 0 0 ≡ 0 → verdict_in bytes ≡ clean_verdict (number (past second recording)) end
  -- else the fields read back are the earliest broken edge, the least rule there, its record, and the pair that 01 names
  pub broken : (get_or bytes 0 0 ≡ 0 → ⊥) →
      let v = verdict_in bytes in Broken-means (part recording) (past second recording) end v.edge v.number v.rule v.partner v.needed v.found
