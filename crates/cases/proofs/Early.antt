-- Until the greatest t_ras has passed once no bank is late, so up to there a verdict is computed without rule 24.
-- Assumes nothing.
use Prim.Native.Nat.{ℕ, zero, suc, ◌+◌, ◌-◌, ◌≤◌}
use native.Mathlib.Omega.{arith}
use mathlib.Core.Path.{◌≡◌, refl, ap, ◌∙◌}
use mathlib.Core.Bool.{true}
use mathlib.Core.List.{List, reverse}
use lib.Dec.{leb}
use borrow.Author.Tests.{leb-true, ne_eqb}
use Rattle.header.specs.declared.Header.{Header}
use Rattle.records.specs.Record.{records}
use Rattle.chip.specs.declared.Chip.{Chip}
use Rattle.chip.specs.Chip.{chip_of}
use Rattle.answers.specs.declared.Bank.{Bank}
use Rattle.answers.specs.declared.Bank.TheVariants.{Idle, Open, Closing}
use Rattle.answers.specs.declared.Break.TheVariants.{Fine}
use Rattle.answers.specs.declared.Verdict.{Verdict}
use Rattle.rules.specs.Past.{Past, number, up_to}
use Rattle.rules.specs.Banks.{status}
use Rattle.answers.specs.Answer.{or_else, lowest}
use Rattle.rules.specs.Rules.{checks, change_checks, exit_checks, break_at}
use Rattle.rules.specs.Deadlines.{late, rule25, rule28, rule31}
use Rattle.rules.specs.Verdict.{Outcome, clean, keep, told, record_says, verdict_to, shown, shown_verdict}
use Rattle.rules.proofs.Numbered.{behind, in_order, by_number}

not_late : (m t : ℕ) (k : Bank) → t ≤ m → late m k t ≡ Fine
not_late m t Idle l = refl
not_late m t (Open at num row) l = rw (ne_eqb (at + m + 1) t (λ e. omega arith))
not_late m t (Closing at num row) l = rw (ne_eqb (at + m + 1) t (λ e. omega arith))

none-late : (m t n : ℕ) (f : ℕ → Bank) → t ≤ m → lowest (λ b. late m (f b) t) n ≡ Fine
unfolding lowest or_else
none-late m t zero f l = refl
none-late m t (suc n) f l = rw (none-late m t n f l, not_late m t (f n) l)

module _ (C : Chip) (p : Past) where
  -- the first broken edge from 1 to t, leaving rule 24 aside
  unfoldable pub early : ℕ → Outcome
  early zero = clean
  early (suc t) =
      keep (early t) (keep (record_says (break_at (checks C)) p (suc t)) (keep (told (suc t) 0 (rule25 C p (suc t)))
      (behind (record_says (break_at (change_checks C)) p (suc t)) (told (suc t) 0 (rule28 C p (suc t))) (record_says (break_at (exit_checks C)) p (suc t))
      (told (suc t) 0 (rule31 C p (suc t))))))

  early-verdict : (t : ℕ) → t ≤ C.most → verdict_to C p t ≡ early t
  unfolding verdict_to early keep
  early-verdict zero l = refl
  early-verdict (suc t) l =
      (λ i. keep (early-verdict t (omega arith) i) (by_number C p (suc t) i))
      ∙ ap (λ b. keep (early t) (in_order (record_says (break_at (checks C)) p (suc t)) (told (suc t) 0 b) (told (suc t) 0 (rule25 C p (suc t)))
      (record_says (break_at (change_checks C)) p (suc t)) (told (suc t) 0 (rule28 C p (suc t))) (record_says (break_at (exit_checks C)) p (suc t)) (told (suc t) 0 (rule31 C p (suc t)))))
      (none-late C.most (suc t) 8 (λ n. status C n (up_to (suc t - 1) p) (suc t - 1)) l)

pub judged-early : (h : Header) (bytes : List ℕ) (end : ℕ) (v : Verdict) → leb end (chip_of h).most ≡ true
    → shown (early (chip_of h) (reverse (records bytes)) end) (number (reverse (records bytes))) end ≡ v → shown_verdict (chip_of h) (reverse (records bytes)) end ≡ v
judged-early h bytes end v l e =
    let p = reverse (records bytes) in
    ap (λ w. shown w (number p) end) (early-verdict (chip_of h) p end (leb-true _ _ l)) ∙ e
