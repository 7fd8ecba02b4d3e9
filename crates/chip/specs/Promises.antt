-- What each public function answers, by name: cited by its `ensures`, and by its line in `proofs/Answers.antt` that two answers are
-- equal.
-- Assumes nothing.
use Rattle.std.specs.Prelude.{ℕ, ◌≤◌, ◌≡◌}
use Rattle.header.specs.declared.Header.{Header}
use Rattle.chip.specs.declared.Chip.{Chip}
use Rattle.chip.specs.declared.Regs.{Regs}
use Rattle.chip.specs.Chip.{chip_of}
use Rattle.chip.specs.Latencies.{b_of}

-- `chip_of`
abbrev pub ChipOf : (h : Header) (r : Chip) → Type 0
ChipOf h r = r ≡ chip_of h

-- `al_of`, `cl_of`, `cwl_of`, `wr_of`, `h_of`, each with its number of `Latencies.antt`; it fits a byte, so that sums of a few do not wrap
abbrev pub InForce : (number : Regs → ℕ) (g : Regs) (r : ℕ) → Type 0
InForce number g r = (r ≡ number g) × (r ≤ 255)

-- `b_of`, of a read at the address a
abbrev pub BOf : (g : Regs) (a : ℕ) (r : ℕ) → Type 0
BOf g a r = (r ≡ b_of g a) × (r ≤ 255)
