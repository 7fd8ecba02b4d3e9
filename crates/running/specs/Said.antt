-- What is said of an edge: a verdict, by what is broken there.
-- Assumes nothing.
use Rattle.std.specs.Prelude.{ℕ, Bool, cond, eqb}
use Rattle.answers.specs.declared.Break.{Break}
use Rattle.answers.specs.declared.Break.TheVariants.{Fine, Broken}
use Rattle.answers.specs.declared.Verdict.{Verdict}
use Rattle.running.specs.declared.Late.{Late}
use Rattle.running.specs.Late.{why}

-- nothing is broken yet
abbrev pub no_verdict : Verdict
no_verdict = record { outcome = 0; rule = 0; number = 0; partner = 0; edge = 0; needed = 0; found = 0 }

abbrev pub broken_at : (edge num rule partner needed found : ℕ) → Verdict
broken_at e n k p m f = record { outcome = 1; rule = k; number = n; partner = p; edge = e; needed = m; found = f }

-- a break at an edge with the number of its record, 0 for none; Fine: nothing yet
abbrev pub verdict_at : (edge num : ℕ) → Break → Verdict
verdict_at e n Fine = no_verdict
verdict_at e n (Broken k p m f) = broken_at e n k p m f

abbrev pub is_clean : Verdict → Bool
is_clean v = eqb v.outcome 0

-- of two verdicts the first that says something
abbrev pub first : Verdict → Verdict → Verdict
first v w = cond (is_clean v) w v

-- a deadline that passes at edge e itself
abbrev pub late_at : (edge : ℕ) → Late → Break
late_at e x = cond (eqb x.at e) (why x) Fine

-- "Clean: rule, partner, needed, found are 0, record is the number of records, edge is the end edge"
abbrev pub clean_at : (count end : ℕ) → Verdict
clean_at n t = record { outcome = 0; rule = 0; number = n; partner = 0; edge = t; needed = 0; found = 0 }
