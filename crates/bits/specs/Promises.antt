-- What each public function answers, by name: cited by its `ensures`, and by its line in `proofs/Answers.antt` that two answers are
-- equal.
-- Assumes nothing.
use Rattle.std.specs.Prelude.{ℕ, List, ◌≡◌}
use Rattle.bits.specs.Bits.{word_of}

-- `word`
abbrev pub Word : (six : List ℕ) (r : ℕ) → Type 0
Word six r = r ≡ word_of six
