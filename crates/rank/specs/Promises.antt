-- What each public function answers, by name: cited by its `ensures`, and by its line in `proofs/Answers.antt` that two answers are
-- equal.
-- Assumes nothing.
use Rattle.std.specs.Prelude.{ℕ, List, ◌≡◌}
use Rattle.answers.specs.declared.End.{End}
use Rattle.chip.specs.declared.Chip.{Chip}
use Rattle.edges.specs.Folded.{Folded}
use Rattle.edges.specs.declared.Rank.{Rank}
use Rattle.edges.specs.Ends.{taken_of, ended_of}

-- `take`
abbrev pub Take : (chip : Chip) (s : Rank) (bytes : List ℕ) (r : Folded) → Type 0
Take chip s bytes r = r ≡ taken_of chip s bytes

-- `end`
abbrev pub Ended : (chip : Chip) (s : Rank) (at : ℕ) (r : End) → Type 0
Ended chip s at r = r ≡ ended_of chip s at
