-- What each public function answers, by name: cited by its `ensures`, and by its line in `proofs/Answers.antt` that two answers are
-- equal.
-- Assumes nothing.
use Rattle.std.specs.Prelude.{ℕ, List, ◌≡◌}
use Rattle.answers.specs.declared.Bank.{Bank}
use Rattle.answers.specs.declared.Shown.{Shown}
use Rattle.answers.specs.declared.Verdict.{Verdict}
use Rattle.answers.specs.Answer.{verdict_bytes, shown_of, status_of, row_of, act_of}

-- `show`
abbrev pub Show : (b : Bank) (r : Shown) → Type 0
Show b r = r ≡ shown_of b

-- `Shown::status`
abbrev pub Status : (b : Shown) (r : ℕ) → Type 0
Status b r = r ≡ status_of b

-- `Shown::row`
abbrev pub ShownRow : (b : Shown) (r : ℕ) → Type 0
ShownRow b r = r ≡ row_of b

-- `Shown::act`
abbrev pub ActEdge : (b : Shown) (r : ℕ) → Type 0
ActEdge b r = r ≡ act_of b

-- `verdict_bytes`; those of `put_verdict` and `put_verdicts` are `Reported` and `ReportedBoth` of `Answer.antt`
abbrev pub VerdictBytes : (v : Verdict) (r : List ℕ) → Type 0
VerdictBytes v r = r ≡ verdict_bytes v
