-- Rules 24, 25, 28 and 31 at an edge say that they are broken exactly where they are, and name the pair that 01 names.
-- Assumes nothing.
use Prim.Native.Nat.{ℕ, ◌+◌, ◌-◌, ◌≤◌, ◌<◌}
use native.Mathlib.Omega.{arith}
use mathlib.Core.Path.{◌≡◌, refl, sym, ap, ◌∙◌}
use mathlib.Core.Bool.{Bool, true, false, cond, ◌&&◌}
use mathlib.Core.List.{[], ◌∷◌}
use lib.Dec.{eqb, leb, ltb}
use borrow.Author.Tests.{eqb-true, eq-eqb, leb-true, le-leb, ltb-true, lt-ltb}
use Rattle.answers.specs.declared.Bank.{Bank}
use Rattle.answers.specs.declared.Break.TheVariants.{Fine, Broken}
use Rattle.records.specs.declared.Command.TheVariants.{Ref, Pde}
use Rattle.chip.specs.declared.Chip.{Chip}
use Rattle.rules.specs.Past.{Past, edge, number, changes, is, latest, up_to}
use Rattle.rules.specs.Banks.{act_on, is_idle, act_num, status}
use Rattle.rules.specs.Deadlines.{over, late, stayed, rule24, rule25, rule28, rule31, owed_at, since_ref}
use Rattle.rules.specs.Down.{turned}
use Rattle.rules.proofs.Generic.{broken-fine}
use Rattle.rules.proofs.Events.{never}
use Rattle.rules.proofs.Clean.{lowest-fine}
use Rattle.means.specs.Passing.{Over, Late, Late-pair, Owing, Debt-pair, Stayed, Stay-pair, Parted, Gap-pair}
use Rattle.means.proofs.Partners.{fine-broken, latest-sense, latest-one, Lowest, lowest-sense, status-cases, act-number}

over-is : (C : Chip) (b : ℕ) (p : Past) (u t : ℕ)
    → over C.most (status C b p u) t ≡ cond (is_idle (status C b p u)) false (eqb (edge (latest (act_on b) p) + C.most + 1) t)
over-is C b p u t =
    status-cases C b u p (λ k. over C.most k t ≡ cond (is_idle k) false (eqb (edge (latest (act_on b) p) + C.most + 1) t)) refl refl refl

over-means : (C : Chip) (b : ℕ) (p : Past) (u t : ℕ) → over C.most (status C b p u) t ≡ true → Over C b p u t
over-means C b p u t h = go (is_idle (status C b p u)) refl (sym (over-is C b p u t) ∙ h)
  where
    go : (x : Bool) → is_idle (status C b p u) ≡ x → cond x false (eqb (edge (latest (act_on b) p) + C.most + 1) t) ≡ true → Over C b p u t
    go true y g = never g refl
    go false y g = (y, eqb-true _ _ g)

over-true : (C : Chip) (b : ℕ) (p : Past) (u t : ℕ) → Over C b p u t → over C.most (status C b p u) t ≡ true
over-true C b p u t w = over-is C b p u t ∙ rw w.0 (eq-eqb _ t w.1)

module _ (C : Chip) (q : Past) (t : ℕ) where
  pub pair24 : (k n m f : ℕ) → rule24 C q t ≡ Broken k n m f → (k ≡ 24) × Late-pair C q t n m f
  pair24 k n m f h = go (lowest-sense _ 8 k n m f h)
    where
      st : ℕ → Bank
      st b = status C b (up_to (t - 1) q) (t - 1)

      bad : (x : Bool) (a : ℕ) → cond x (Broken 24 a C.most (C.most + 1)) Fine ≡ Broken k n m f
          → (k ≡ 24) × (x ≡ true) × (n ≡ a) × (m ≡ C.most) × (f ≡ C.most + 1)
      bad true a g = (cc, refl, cc, cc, cc)
      bad false a g = fine-broken g

      good : (x : Bool) (a : ℕ) → cond x (Broken 24 a C.most (C.most + 1)) Fine ≡ Fine → x ≡ true → ⊥
      good x a g y = broken-fine (rw y at g)

      go : Lowest (λ b. late C.most (st b) t) 8 (Broken k n m f) → (k ≡ 24) × Late-pair C q t n m f
      go w =
          let b = w.bank in
          let x = bad (over C.most (st b) t) (act_num (st b)) w.here-is in
          let o = over-means C b (up_to (t - 1) q) (t - 1) t x.1 in (
            x.0,
            record {
              bank = b;
              below = w.below;
              passed = o;
              lower = λ c l v. good (over C.most (st c) t) (act_num (st c)) (w.lower c l) (over-true C c (up_to (t - 1) q) (t - 1) t v);
              partner-is = x.2 ∙ act-number C b (t - 1) (up_to (t - 1) q) ∙ rw o.0;
              needed-is = x.3;
              found-is = x.4;
            },
          )

  pub late-bad : (b : ℕ) → b < 8 → Late C q t b → rule24 C q t ≡ Fine → ⊥
  late-bad b l w h = broken-fine (rw (over-true C b (up_to (t - 1) q) (t - 1) t w) at (lowest-fine _ 8 b h l))

  pub pair25 : (k n m f : ℕ) → rule25 C q t ≡ Broken k n m f → (k ≡ 25) × Debt-pair C q t n m f
  pair25 k n m f h = go (leb 17 (owed_at C.trefi (up_to t q) t)) refl h
    where
      go : (x : Bool) → leb 17 (owed_at C.trefi (up_to t q) t) ≡ x → cond x (Broken 25 (number (latest (is Ref) (up_to t q))) 8 9) Fine ≡ Broken k n m f
          → (k ≡ 25) × Debt-pair C q t n m f
      go true y g = (cc, record { owes = leb-true _ _ y; partner-is = cc; needed-is = cc; found-is = cc })
      go false y g = fine-broken g

  pub owing-bad : Owing C q t → rule25 C q t ≡ Fine → ⊥
  owing-bad w h = broken-fine (rw (le-leb 17 (owed_at C.trefi (up_to t q) t) w) at h)

  some-entry : (s : Past) → is Pde s ≡ true → 1 ≤ number s
  some-entry [] y = never y refl
  some-entry (r ∷ s) y = omega arith

  pub pair28 : (k n m f : ℕ) → rule28 C q t ≡ Broken k n m f → (k ≡ 28) × Stay-pair C q t n m f
  pair28 k n m f h = go (is Pde s) refl (eqb (edge s + C.nine + 1) t) refl h
    where
      s : Past
      s = turned (up_to (t - 1) q)

      go : (x : Bool) → is Pde s ≡ x → (y : Bool) → eqb (edge s + C.nine + 1) t ≡ y
          → cond (x && y) (Broken 28 (number s) C.nine (C.nine + 1)) Fine ≡ Broken k n m f → (k ≡ 28) × Stay-pair C q t n m f
      go true a true b g = (
        cc,
        record {
          event = s;
          latest-of = latest-sense changes (up_to (t - 1) q) (some-entry s a);
          entered = a;
          passed = eqb-true _ _ b;
          partner-is = cc;
          needed-is = cc;
          found-is = cc;
        },
      )
      go true a false b g = fine-broken g
      go false a y b g = fine-broken g

  pub stay-bad : Stayed C q t → rule28 C q t ≡ Fine → ⊥
  stay-bad w h =
      let e = latest-one changes (up_to (t - 1) q) w.0 w.1 in
      let g : stayed C.nine w.0 t ≡ Fine = ap (λ s. stayed C.nine s t) (sym e) ∙ h in
      broken-fine (rw (w.2, eq-eqb (edge w.0 + C.nine + 1) t w.3) at g)

  pub pair31 : (k n m f : ℕ) → rule31 C q t ≡ Broken k n m f → (k ≡ 31) × Gap-pair C q t n m f
  pair31 k n m f h = go (ltb C.nine (since_ref p t)) refl h
    where
      p : Past
      p = up_to (t - 1) q

      go : (x : Bool) → ltb C.nine (since_ref p t) ≡ x → cond x (Broken 31 (number (latest (is Ref) p)) C.nine (C.nine + 1)) Fine ≡ Broken k n m f
          → (k ≡ 31) × Gap-pair C q t n m f
      go true y g = (cc, record { passed = ltb-true _ _ y; partner-is = cc; needed-is = cc; found-is = cc })
      go false y g = fine-broken g

  pub parted-bad : Parted C q t → rule31 C q t ≡ Fine → ⊥
  parted-bad w h = broken-fine (rw (lt-ltb C.nine (since_ref (up_to (t - 1) q) t) w) at h)
