-- What each public function answers, by name: cited by its `ensures`, and by its line in `proofs/Answers.antt` that two answers are
-- equal.
-- Assumes nothing.
use Rattle.std.specs.Prelude.{ℕ, ◌≡◌, Result}
use Rattle.refusals.specs.declared.Refusal.{Refusal}
use Rattle.refusals.specs.Refusals.{number_of, number_in}

-- `Refusal::number`
abbrev pub Number : (r : Refusal) (n : ℕ) → Type 0
Number r n = n ≡ number_of r

-- `code`
abbrev pub Code : (done : Result Unit Refusal) (n : ℕ) → Type 0
Code done n = n ≡ number_in done
