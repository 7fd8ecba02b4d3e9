-- What each public function answers, by name: cited by its `ensures`, and by its line in `proofs/Answers.antt` that two answers are
-- equal.
-- Assumes nothing.
use Rattle.std.specs.Prelude.{ℕ, Bool, Option, List, ◌≡◌}
use Rattle.answers.specs.declared.End.{End}
use Rattle.answers.specs.declared.Verdict.{Verdict}
use Rattle.chip.specs.declared.Chip.{Chip}
use Rattle.chip.specs.declared.Regs.{Regs}
use Rattle.running.specs.declared.Written.{Written}
use Rattle.running.specs.Ranges.{is_small}
use Rattle.running.specs.Ends.{no_end, registers_of}
use Rattle.edges.specs.declared.Rank.{Rank}
use Rattle.edges.specs.Ranges.{rank_in_range}
use Rattle.edges.specs.Step.{so_far}
use Rattle.edges.specs.Ends.{fresh_rank}

-- `fresh`
abbrev pub Fresh : (level : Bool) (due gap : ℕ) (r : Rank) → Type 0
Fresh level due gap r = r ≡ fresh_rank level due gap

-- `in_range`
abbrev pub InRange : (s : Rank) (r : Bool) → Type 0
InRange s r = r ≡ rank_in_range s

-- `is_small`
abbrev pub IsSmall : (chip : Chip) (r : Bool) → Type 0
IsSmall chip r = r ≡ is_small chip

-- `no_end`
abbrev pub NoEnd : (r : End) → Type 0
NoEnd r = r ≡ no_end

-- `registers_of`
abbrev pub RegistersOf : (g : Regs) (w : Written) (r : List (Option ℕ)) → Type 0
RegistersOf g w r = r ≡ registers_of g w

-- `so_far`
abbrev pub SoFar : (s : Rank) (r : Verdict) → Type 0
SoFar s r = r ≡ so_far s
