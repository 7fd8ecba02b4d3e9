-- What each public function answers, by name: cited by its `ensures`, and by its line in `proofs/Answers.antt` that two answers are
-- equal.
-- Assumes nothing.
use Rattle.std.specs.Prelude.{ℕ, ◌+◌, ◌-◌, max, ◌≡◌}
use Rattle.chip.specs.declared.Regs.{Regs}
use Rattle.chip.specs.Latencies.{al_of, cl_of, cwl_of, b_of}

-- `need4`
abbrev pub Need4 : (trcd al : ℕ) (r : ℕ) → Type 0
Need4 trcd al r = r ≡ max (trcd - al) 1

-- `need13`; 0 where CWL is the greater
abbrev pub Need13 : (g : Regs) (a : ℕ) (r : ℕ) → Type 0
Need13 g a r = r ≡ cl_of g + 2 + b_of g a - cwl_of g

-- `need19`
abbrev pub Need19 : (g : Regs) (a : ℕ) (r : ℕ) → Type 0
Need19 g a r = r ≡ al_of g + cl_of g + b_of g a
