-- What each public function answers, by name: cited by its `ensures`, and by its line in `proofs/Answers.antt` that two answers are
-- equal.
-- Assumes nothing.
use Rattle.std.specs.Prelude.{ℕ, List, ◌≡◌}
use Rattle.answers.specs.declared.Break.{Break}
use Rattle.answers.specs.declared.Verdict.{Verdict}
use Rattle.running.specs.declared.Late.{Late}
use Rattle.running.specs.declared.Pick.{Pick}
use Rattle.running.specs.Late.{soonest, sooner, why, late_by}
use Rattle.running.specs.Said.{no_verdict, first, verdict_at, late_at, clean_at}

-- `soonest`, of the eight banks
abbrev pub Soonest : (dues : List ℕ) (lo hi : ℕ) (r : Pick) → Type 0
Soonest dues lo hi r = r ≡ soonest dues lo hi 8

-- `late_by`
abbrev pub LateBy : (rule at partner most : ℕ) (r : Late) → Type 0
LateBy rule at partner most r = r ≡ late_by rule at partner most

-- `sooner`
abbrev pub Sooner : (x y : Late) (r : Late) → Type 0
Sooner x y r = r ≡ sooner x y

-- `why`
abbrev pub Why : (x : Late) (r : Break) → Type 0
Why x r = r ≡ why x

-- `first`
abbrev pub First : (v w : Verdict) (r : Verdict) → Type 0
First v w r = r ≡ first v w

-- `late_at`
abbrev pub LateAt : (e : ℕ) (x : Late) (r : Break) → Type 0
LateAt e x r = r ≡ late_at e x

-- `verdict_at`
abbrev pub VerdictAt : (e n : ℕ) (b : Break) (r : Verdict) → Type 0
VerdictAt e n b r = r ≡ verdict_at e n b

-- `none`
abbrev pub None : (r : Verdict) → Type 0
None r = r ≡ no_verdict

-- `clean_at`
abbrev pub CleanAt : (count end : ℕ) (r : Verdict) → Type 0
CleanAt count end r = r ≡ clean_at count end
