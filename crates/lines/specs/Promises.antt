-- What each public function answers, by name: cited by its `ensures`, and by its line in `proofs/Answers.antt` that two answers are
-- equal.
-- Assumes nothing.
use Rattle.std.specs.Prelude.{ℕ, ◌≤◌, List}
use Rattle.io.specs.Counts.{IsPrefixLen}
use Rattle.answers.specs.declared.Verdict.{Verdict}
use Rattle.lines.specs.Line.{verdict_words, verdict_line, refusal_line, Printed}

-- a text at the start of the lent bytes, and its length; `Counts`: so many bytes are there, which a caller that takes them must know
abbrev pub Line : (text before : List ℕ) (r : ℕ) (after : List ℕ) → Type 0
Line text before r after = IsPrefixLen r after × Printed text before r after

-- `verdict_line`
abbrev pub VerdictLine : (v : Verdict) (before : List ℕ) (r : ℕ) (after : List ℕ) → Type 0
VerdictLine v before r after = Line (verdict_line v) before r after

-- `refusal_line`
abbrev pub RefusalLine : (n : ℕ) (before : List ℕ) (r : ℕ) (after : List ℕ) → Type 0
RefusalLine n before r after = Line (refusal_line n) before r after

-- `verdict_words`; one byte is left for the newline
abbrev pub VerdictWords : (v : Verdict) (before : List ℕ) (r : ℕ) (after : List ℕ) → Type 0
VerdictWords v before r after = IsPrefixLen r after × ((r ≤ 132) × Printed (verdict_words v) before r after)
