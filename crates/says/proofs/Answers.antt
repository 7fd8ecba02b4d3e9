-- One answer for each public contract: of a deadline, and of what is said.
-- Assumes nothing.
use Prim.Native.Nat.{ℕ}
use mathlib.Core.List.{List}
use Rattle.laws.proofs.Unique.{Unique, one_answer}
use Rattle.answers.specs.declared.Break.{Break}
use Rattle.answers.specs.declared.Verdict.{Verdict}
use Rattle.running.specs.declared.Late.{Late}
use Rattle.running.specs.Late.{soonest, sooner, why, late_by}
use Rattle.running.specs.Said.{no_verdict, first, verdict_at, late_at, clean_at}
use Rattle.says.specs.Promises.{Soonest, LateBy, Sooner, Why, First, LateAt, VerdictAt, None, CleanAt}

pub soonest-unique : (dues : List ℕ) (lo hi : ℕ) → Unique (Soonest dues lo hi)
soonest-unique dues lo hi = one_answer (soonest dues lo hi 8)

pub sooner-unique : (x y : Late) → Unique (Sooner x y)
sooner-unique x y = one_answer (sooner x y)

pub late-by-unique : (rule at partner most : ℕ) → Unique (LateBy rule at partner most)
late-by-unique rule at partner most = one_answer (late_by rule at partner most)

pub why-unique : (x : Late) → Unique (Why x)
why-unique x = one_answer (why x)

pub first-unique : (v w : Verdict) → Unique (First v w)
first-unique v w = one_answer (first v w)

pub late-at-unique : (e : ℕ) (x : Late) → Unique (LateAt e x)
late-at-unique e x = one_answer (late_at e x)

pub verdict-at-unique : (e n : ℕ) (b : Break) → Unique (VerdictAt e n b)
verdict-at-unique e n b = one_answer (verdict_at e n b)

pub none-unique : Unique None
none-unique = one_answer no_verdict

pub clean-at-unique : (count end : ℕ) → Unique (CleanAt count end)
clean-at-unique count end = one_answer (clean_at count end)
