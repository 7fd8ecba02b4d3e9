-- Refresh debt: what is kept of it, over a record and over a gap.
-- Assumes nothing.
use Prim.Native.Nat.{ℕ, ◌+◌, ◌-◌, ◌*◌, ◌/◌, ◌%◌, ◌≤◌, ◌<◌}
use native.Mathlib.Nat.{div-add-mod', le-div_iff_mul-le, mul-add-div_right, mod-add-mod, mul-le-mul_right, zero-div}
use native.Mathlib.Omega.{arith}
use mathlib.Core.Path.{◌≡◌, sym, ap, ◌∙◌}
use mathlib.Core.Logic.{◌↔◌, ⊎_elim}
use mathlib.Core.Bool.{Bool, true, false, cond}
use mathlib.Core.List.{[], ◌∷◌}
use Rattle.records.specs.declared.Record.{Record}
use Rattle.records.specs.declared.Command.TheVariants.{Ref}
use Rattle.running.specs.declared.Debt.{Debt}
use Rattle.rules.specs.Past.{Past, edge, number, asleep, is, latest}
use Rattle.rules.specs.Deadlines.{awake_to, awake_at, owed_to, owed_at, since_ref}
use Rattle.rules.proofs.Generic.{decide}

-- the awake clocks since the last REF, or edge 0, at the latest record
unfoldable pub gap_to : Past → ℕ
gap_to p = awake_to p - awake_to (latest (is Ref) p)

unfoldable pub debt_of : ℕ → Past → Debt
debt_of T p = record { sleeps = asleep p; phase = awake_to p % T; owed = owed_to T p; gap = gap_to p }

-- the intervals of a edges and x more
intervals : {T : ℕ} → 0 < T → (a x : ℕ) → (a + x) / T ≡ a / T + (a % T + x) / T
intervals {T} h a x = e ∙ mul-add-div_right h (a / T) (a % T + x)
  where
    e : (a + x) / T ≡ (a / T * T + (a % T + x)) / T
    e = ap (λ n. n / T) (omega (arith, div-add-mod' a T))

-- those that end in the x edges
pub passed : {T : ℕ} → 0 < T → (a x : ℕ) → (a + x) / T - a / T ≡ (a % T + x) / T
passed h a x = omega (arith, intervals h a x)

-- the debt o reaches 17 after x edges just when they make up what is missing
pub reaches : {T : ℕ} → 0 < T → (o f x : ℕ) → o ≤ 16 → (17 ≤ o + (f + x) / T) ↔ ((17 - o) * T ≤ f + x)
reaches {T} h o f x small = (λ g. (le-div_iff_mul-le h).0 (omega arith), λ g. omega (arith, (le-div_iff_mul-le {x = 17 - o} h).1 g))

pub ahead : {T : ℕ} → 0 < T → (o f : ℕ) → o ≤ 16 → f < T → f < (17 - o) * T
ahead {T} h o f small l = omega (arith, mul-le-mul_right {m = 1} {n = 17 - o} T (omega arith))

-- a record's edge is `step` after the one before it
awake-step : (r : Record) (p : Past) → awake_at p (edge (r ∷ p)) ≡ awake_to p + cond (asleep p) 0 r.step
unfolding awake_at
awake-step r p = let e : edge (r ∷ p) - edge p ≡ r.step = omega arith in ap (λ n. awake_to p + cond (asleep p) 0 n) e

module _ {T : ℕ} (h : 0 < T) where
  -- the debt at an edge after the latest record, of what is kept
  pub owed-at : (p : Past) (t : ℕ) → owed_at T p t ≡ owed_to T p + (awake_to p % T + cond (asleep p) 0 (t - edge p)) / T
  unfolding owed_at awake_at
  owed-at p t = ap (λ n. owed_to T p + n) (passed h (awake_to p) (cond (asleep p) 0 (t - edge p)))

  pub phase-step : (r : Record) (p : Past) → (awake_to p % T + cond (asleep p) 0 r.step) % T ≡ awake_to (r ∷ p) % T
  unfolding awake_to
  phase-step r p = mod-add-mod (awake_to p) T (cond (asleep p) 0 r.step)

  pub owed-step : (r : Record) (p : Past) →
      owed_to T p + (awake_to p % T + cond (asleep p) 0 r.step) / T - cond (is Ref (r ∷ p)) 1 0 ≡ owed_to T (r ∷ p)
  unfolding owed_to
  owed-step r p = sym
      (ap (λ n. owed_to T p + (n / T - awake_to p / T) - cond (is Ref (r ∷ p)) 1 0) (awake-step r p)
      ∙ ap (λ n. owed_to T p + n - cond (is Ref (r ∷ p)) 1 0) (passed h (awake_to p) (cond (asleep p) 0 r.step)))

  -- where no REF came nothing is paid
  owed_none : (p : Past) → number (latest (is Ref) p) ≡ 0 → owed_to T p ≡ 8 + awake_to p / T
  unfolding owed_to awake_to
  owed_none [] e = omega (arith, zero-div T)
  owed_none (r ∷ p) e = ⊎_elim
      (λ (y : is Ref (r ∷ p) ≡ true). absurd (omega (arith, rw y at e)))
      (λ (n : is Ref (r ∷ p) ≡ false).
      let old = owed_none p (rw n at e) in
      sym (owed-step r p) ∙ rw n (omega (arith, old, intervals h (awake_to p) (cond (asleep p) 0 r.step))))
      (decide (is Ref (r ∷ p)))

  pub owed-none-at : (p : Past) (t : ℕ) → number (latest (is Ref) p) ≡ 0 → owed_at T p t ≡ 8 + awake_at p t / T
  unfolding awake_at
  owed-none-at p t e = owed-at p t ∙ omega (arith, owed_none p e, intervals h (awake_to p) (cond (asleep p) 0 (t - edge p)))

-- right after a record
pub owed-now : {T : ℕ} → 0 < T → (p : Past) → owed_at T p (edge p) ≡ owed_to T p
unfolding owed_at awake_at
owed-now {T} h p =
    let e : edge p - edge p ≡ 0 = omega arith in
    go (asleep p) e
  where
    go : (s : Bool) → edge p - edge p ≡ 0 → owed_to T p + ((awake_to p + cond s 0 (edge p - edge p)) / T - awake_to p / T) ≡ owed_to T p
    go true e = let z : awake_to p + 0 ≡ awake_to p = omega arith in rw z (omega arith)
    go false e = let z : awake_to p + (edge p - edge p) ≡ awake_to p = omega arith in rw z (omega arith)

-- ── Since the last REF ──────────────────────────────────────────────────────────────────────

-- the awake clock never goes back
awake-latest : (k : Past → Bool) (p : Past) → awake_to (latest k p) ≤ awake_to p
unfolding awake_to
awake-latest k [] = omega arith
awake-latest k (r ∷ p) = ⊎_elim
    (λ (y : k (r ∷ p) ≡ true). rw y (omega arith))
    (λ (n : k (r ∷ p) ≡ false). rw n (omega (arith, awake-latest k p)))
    (decide (k (r ∷ p)))

-- at an edge after the latest record, of what is kept
pub since_at : (p : Past) (t : ℕ) → since_ref p t ≡ gap_to p + cond (asleep p) 0 (t - edge p)
unfolding since_ref awake_at gap_to
since_at p t = omega (arith, awake-latest (is Ref) p)

pub gap_step : (r : Record) (p : Past) → cond (is Ref (r ∷ p)) 0 (gap_to p + cond (asleep p) 0 r.step) ≡ gap_to (r ∷ p)
unfolding gap_to awake_to
gap_step r p = ⊎_elim
    (λ (y : is Ref (r ∷ p) ≡ true). rw y (omega arith))
    (λ (n : is Ref (r ∷ p) ≡ false). rw n (omega (arith, awake-latest (is Ref) p)))
    (decide (is Ref (r ∷ p)))
