-- The rules of an edge by number: a run of record rules may be looked at at once, and what is said is said of that edge.
-- Assumes nothing.
use Prim.Native.Nat.{ℕ, ◌<◌}
use native.Mathlib.Omega.{arith}
use mathlib.Core.Path.{◌≡◌, refl, sym, ap, ◌∙◌}
use mathlib.Core.Logic.{⊎_elim}
use mathlib.Core.Bool.{true, false}
use mathlib.Core.List.{List, [], ◌∷◌}
use lib.Dec.{eqb}
use borrow.Author.Tests.{ne_eqb}
use Rattle.answers.specs.declared.Break.{Break}
use Rattle.answers.specs.declared.Break.TheVariants.{Fine, Broken}
use Rattle.answers.specs.Answer.{or_else}
use Rattle.records.specs.declared.Record.{Record}
use Rattle.chip.specs.declared.Chip.{Chip}
use Rattle.rules.specs.Past.{Past, edge, number}
use Rattle.rules.specs.Rules.{checks, change_checks, exit_checks, break_at}
use Rattle.rules.specs.Deadlines.{rule24, rule25, rule28, rule31}
use Rattle.rules.specs.Verdict.{Outcome, clean, stop, keep, told, Check, of_record, deadline, record_says, check_says, first_of, of_records, edge_checks, broken_at}
use Rattle.rules.proofs.Generic.{decide}

-- ── Outcomes ────────────────────────────────────────────────────────────────────────────────

pub stop-clean {ℓ} : {A : Type ℓ} {t n : ℕ} {b : Break} → stop t n b ≡ clean → A
stop-clean h = let z : ◌≡◌ {A = ℕ} 0 1 = cc in absurd (omega arith)

pub keep-clean : (v w : Outcome) → keep v w ≡ clean → (v ≡ clean) × (w ≡ clean)
unfolding keep
keep-clean clean w h = (refl, h)
keep-clean (stop t n b) w h = stop-clean h

pub keep-none : (v : Outcome) → keep v clean ≡ v
unfolding keep
keep-none clean = refl
keep-none (stop t n b) = refl

keep-keep : (u v w : Outcome) → keep u (keep v w) ≡ keep (keep u v) w
unfolding keep
keep-keep clean v w = refl
keep-keep (stop t n b) v w = refl

pub told-clean : (t n : ℕ) (b : Break) → told t n b ≡ clean → b ≡ Fine
told-clean t n Fine h = refl
told-clean t n (Broken k x m f) h = stop-clean h

pub told-both : (t n : ℕ) (b d : Break) → told t n (or_else b d) ≡ keep (told t n b) (told t n d)
unfolding or_else keep
told-both t n Fine d = refl
told-both t n (Broken k x m f) d = refl

-- ── A run of record rules ───────────────────────────────────────────────────────────────────

run-fine : (p : Past) (t : ℕ) → record_says (λ r q. Fine) p t ≡ clean
run-fine [] t = refl
run-fine (r ∷ p) t = ⊎_elim
    (λ (y : eqb (edge (r ∷ p)) t ≡ true). rw y)
    (λ (z : eqb (edge (r ∷ p)) t ≡ false). rw z (run-fine p t))
    (decide (eqb (edge (r ∷ p)) t))

run-two : (f g : Record → Past → Break) (p : Past) (t : ℕ) → record_says (λ r q. or_else (f r q) (g r q)) p t ≡ keep (record_says f p t) (record_says g p t)
unfolding keep
run-two f g [] t = refl
run-two f g (r ∷ p) t = ⊎_elim
    (λ (y : eqb (edge (r ∷ p)) t ≡ true). rw y (told-both t (number (r ∷ p)) (f r p) (g r p)))
    (λ (z : eqb (edge (r ∷ p)) t ≡ false). rw z (run-two f g p t))
    (decide (eqb (edge (r ∷ p)) t))

-- the first of a run of record rules is that of `break_at`
run_of : (fs : List (Record → Past → Break)) (cs : List Check) (p : Past) (t : ℕ)
    → first_of (of_records fs cs) p t ≡ keep (record_says (break_at fs) p t) (first_of cs p t)
unfolding keep
run_of [] cs p t = ap (λ v. keep v (first_of cs p t)) (sym (run-fine p t))
run_of (f ∷ fs) cs p t =
    ap (keep (record_says f p t)) (run_of fs cs p t)
    ∙ keep-keep (record_says f p t) (record_says (break_at fs) p t) (first_of cs p t)
    ∙ ap (λ v. keep v (first_of cs p t)) (sym (run-two f (break_at fs) p t))

-- what is said behind the first two deadlines: 26 and 27 at once, then 28, then 29 and 30 at once, then 31
abbrev pub behind : (c d e g : Outcome) → Outcome
behind c d e g = keep c (keep d (keep e g))

-- by number: rules 1 to 23 at once, 24, 25, and those behind them
abbrev pub in_order : (a x y c d e g : Outcome) → Outcome
in_order a x y c d e g = keep a (keep x (keep y (behind c d e g)))

pub by_number : (C : Chip) (p : Past) (t : ℕ)
    → broken_at C p t
    ≡ in_order (record_says (break_at (checks C)) p t) (told t 0 (rule24 C p t)) (told t 0 (rule25 C p t))
    (record_says (break_at (change_checks C)) p t) (told t 0 (rule28 C p t)) (record_says (break_at (exit_checks C)) p t) (told t 0 (rule31 C p t))
unfolding broken_at
by_number C p t =
    run_of (checks C) (deadline (rule24 C) ∷ deadline (rule25 C) ∷ of_records (change_checks C) rest) p t
    ∙ ap (λ v. keep (record_says (break_at (checks C)) p t) (keep (told t 0 (rule24 C p t)) (keep (told t 0 (rule25 C p t)) v)))
    (run_of (change_checks C) rest p t
    ∙ ap (λ v. keep (record_says (break_at (change_checks C)) p t) (keep (told t 0 (rule28 C p t)) v))
    (run_of (exit_checks C) (deadline (rule31 C) ∷ []) p t
    ∙ ap (keep (record_says (break_at (exit_checks C)) p t)) (keep-none (told t 0 (rule31 C p t)))))
  where
    rest : List Check
    rest = deadline (rule28 C) ∷ of_records (exit_checks C) (deadline (rule31 C) ∷ [])

-- after the latest record no record breaks a rule
pub record-after : (f : Record → Past → Break) (p : Past) (t : ℕ) → edge p < t → record_says f p t ≡ clean
record-after f [] t l = refl
record-after f (r ∷ p) t l = rw (ne_eqb (edge (r ∷ p)) t (λ e. omega arith)) (record-after f p t (omega arith))

-- ── What is said is said of the edge ────────────────────────────────────────────────────────

told_at : (t n : ℕ) (d : Break) (w m : ℕ) (b : Break) → told t n d ≡ stop w m b → t ≡ w
told_at t n Fine w m b h = stop-clean (sym h)
told_at t n (Broken k x y f) w m b h = cc

record-at : (f : Record → Past → Break) (p : Past) (t w m : ℕ) (b : Break) → record_says f p t ≡ stop w m b → t ≡ w
record-at f [] t w m b h = stop-clean (sym h)
record-at f (r ∷ p) t w m b h = ⊎_elim
    (λ (y : eqb (edge (r ∷ p)) t ≡ true). told_at t (number (r ∷ p)) (f r p) w m b (rw y at h))
    (λ (z : eqb (edge (r ∷ p)) t ≡ false). record-at f p t w m b (rw z at h))
    (decide (eqb (edge (r ∷ p)) t))

check-at : (c : Check) (p : Past) (t w m : ℕ) (b : Break) → check_says c p t ≡ stop w m b → t ≡ w
check-at (of_record f) p t w m b h = record-at f p t w m b h
check-at (deadline f) p t w m b h = told_at t 0 (f p t) w m b h

first-at : (cs : List Check) (p : Past) (t w m : ℕ) (b : Break) → first_of cs p t ≡ stop w m b → t ≡ w
unfolding keep
first-at [] p t w m b h = stop-clean (sym h)
first-at (c ∷ cs) p t w m b h = go (check_says c p t) refl h (first-at cs p t w m b)
  where
    go : (v : Outcome) → check_says c p t ≡ v → keep v (first_of cs p t) ≡ stop w m b → (first_of cs p t ≡ stop w m b → t ≡ w) → t ≡ w
    go clean e g ih = ih g
    go (stop u n d) e g ih = check-at c p t w m b (e ∙ g)

pub broken-at : (C : Chip) (p : Past) (t w m : ℕ) (b : Break) → broken_at C p t ≡ stop w m b → t ≡ w
unfolding broken_at
broken-at C p t w m b h = first-at (edge_checks C) p t w m b h
