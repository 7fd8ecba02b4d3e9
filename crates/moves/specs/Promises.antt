-- What each public function answers, by name: cited by its `ensures`, and by its line in `proofs/Answers.antt` that two answers are
-- equal.
-- Assumes nothing.
use Rattle.std.specs.Prelude.{◌≡◌, ℕ, List, length}
use Rattle.laws.specs.Lent.{Wrote}
use Rattle.moves.specs.declared.Check.{Check}
use Rattle.moves.specs.Check.{begun_of, over_of, refusal_of, outcome_of}
use Rattle.moves.specs.Moves.{widened, narrowed, widen_refusal, narrow_refusal, code_of}

-- `widen`
abbrev pub Widen : (recording before : List ℕ) (r : ℕ) (after : List ℕ) → Type 0
Widen bs before r after = Wrote (code_of (widen_refusal bs) (widened bs) (length before)) (widened bs) before r after

-- `narrow`
abbrev pub Narrow : (recording before : List ℕ) (r : ℕ) (after : List ℕ) → Type 0
Narrow bs before r after = Wrote (code_of (narrow_refusal bs) (narrowed bs) (length before)) (narrowed bs) before r after

-- `Check::begun`
abbrev pub Begun : (header : List ℕ) (edition : ℕ) (r : Check) → Type 0
Begun header edition r = r ≡ begun_of edition header

-- `Check::over`
abbrev pub Over : (c : Check) (bytes : List ℕ) (r : Check) → Type 0
Over c bytes r = r ≡ over_of c bytes

-- `Check::refusal`
abbrev pub Refusal : (c : Check) (r : ℕ) → Type 0
Refusal c r = r ≡ refusal_of c

-- `Check::outcome`
abbrev pub Outcome : (c : Check) (r : ℕ) → Type 0
Outcome c r = r ≡ outcome_of c
