-- The debt as an edge: how a record moves it, and what is owed by it.
-- Assumes nothing.
use Prim.Native.Nat.{ℕ, ◌+◌, ◌-◌, ◌*◌, ◌/◌, ◌%◌, ◌≤◌, ◌<◌}
use native.Mathlib.Nat.{div-add-mod', add-mul, mod-lt, mul-le-mul_right}
use native.Mathlib.Omega.{arith}
use native.Mathlib.Decide.{dec_lt}
use mathlib.Core.Path.{◌≡◌, refl, sym, ap, ◌∙◌}
use mathlib.Core.Logic.{◌⊎◌, inl, inr}
use mathlib.Core.Bool.{Bool, true, false, cond, not, ◌&&◌, ◌||◌}
use mathlib.Core.List.{◌∷◌}
use borrow.Author.Tests.{le-leb, lt-leb}
use Rattle.records.specs.declared.Record.{Record}
use Rattle.records.specs.declared.Command.TheVariants.{Ref, Sre, Srx, Bad}
use Rattle.chip.specs.declared.Chip.{Chip}
use Rattle.edges.specs.declared.Debt.{Debt}
use Rattle.edges.specs.Next.{paid, debt_next}
use Rattle.rules.specs.Past.{Past, edge, asleep, command, is}
use Rattle.rules.specs.Deadlines.{awake_to, owed_to}
use Rattle.rules.proofs.Events.{never}
use Rattle.rules.proofs.Sleeping.{sleeps-on}
use Rattle.rules.proofs.Clean.{is-other}
use Rattle.rules.proofs.Debts.{gap_to, phase-step, owed-step, gap_step}
use Rattle.carries.proofs.Summary.{clocks_left, gap_left, debt_of}

-- ── Intervals ───────────────────────────────────────────────────────────────────────────────

-- x clocks pass after f of an interval, where o are owed: q intervals are completed
module _ {T : ℕ} (pos : 0 < T) (o f x : ℕ) where
  abbrev q : ℕ
  q = (f + x) / T

  abbrev g : ℕ
  g = (f + x) % T

  whole : q * T + g ≡ f + x
  whole = div-add-mod' (f + x) T

  split : o + q ≤ 17 → (17 - o) * T ≡ (17 - (o + q)) * T + q * T
  split l =
      let e : 17 - o ≡ 17 - (o + q) + q = omega arith in
      ap (λ n. n * T) e ∙ add-mul (17 - (o + q)) q T

  -- at most 16 are owed then: the clocks are gone from those that are left
  left-same : o + q ≤ 16 → (17 - (o + q)) * T - g + x ≡ (17 - o) * T - f
  left-same l = omega (arith, split (omega arith), whole, mod-lt (f + x) pos, mul-le-mul_right {m = 1} {n = 17 - (o + q)} T (omega arith))

  -- one is paid: an interval more is left
  left-paid : o ≤ 16 → f < T → 1 ≤ o + q → o + q ≤ 17 → ((17 - (o + q - 1)) * T - g + x ≡ (17 - o) * T - f + T) × ((17 - o) * T - f ≤ x + 16 * T)
  left-paid small less a l =
      let e : 17 - (o + q - 1) ≡ 17 - (o + q) + 1 = omega arith in
      let m : (17 - (o + q - 1)) * T ≡ (17 - (o + q)) * T + 1 * T = ap (λ n. n * T) e ∙ add-mul (17 - (o + q)) 1 T in (
        omega (arith, split l, whole, mod-lt (f + x) pos, mul-le-mul_right {m = 1} {n = 17 - o} T (omega arith)),
        omega (arith, split l, whole, mul-le-mul_right {m = 17 - (o + q)} {n = 16} T (omega arith)),
      )

  -- none can be paid
  left-full : o + q ≡ 0 → ((17 - (o + q - 1)) * T - g + x ≡ (17 - o) * T - f) × (x + 16 * T < (17 - o) * T - f)
  left-full z =
      let e : 17 - (o + q - 1) ≡ 17 = omega arith in
      let m : (17 - (o + q - 1)) * T ≡ 17 * T = ap (λ n. n * T) e in
      let k : 17 - o ≡ 17 = omega arith in
      let n : (17 - o) * T ≡ 17 * T = ap (λ n. n * T) k in
      let y : q ≡ 0 = omega arith in
      let w : q * T ≡ 0 * T = ap (λ n. n * T) y in
      (omega (arith, whole, mod-lt (f + x) pos), omega (arith, whole, mod-lt (f + x) pos))

-- ── A record ────────────────────────────────────────────────────────────────────────────────

-- the clocks left after a REF, k, where they were j and x passed
abbrev Paid : (T x j k : ℕ) → Type 0
Paid T x j k = ((k + x ≡ j + T) × (j ≤ x + 16 * T)) ⊎ ((k + x ≡ j) × (x + 16 * T < j))

module _ {T : ℕ} (pos : 0 < T) (r : Record) (p : Past) (small : owed_to T p ≤ 16) (after : owed_to T (r ∷ p) ≤ 16) where
  abbrev o : ℕ
  o = owed_to T p

  abbrev f : ℕ
  f = awake_to p % T

  -- the clocks that the record's step counts
  abbrev pub counted : ℕ
  counted = cond (asleep p) 0 r.step

  left_is : (n : ℕ) → owed_to T (r ∷ p) ≡ n → clocks_left T (r ∷ p) ≡ (17 - n) * T - (f + counted) % T
  unfolding clocks_left
  left_is n e = λ i. (17 - e i) * T - sym (phase-step pos r p) i

  -- a record that pays nothing
  pub left_other : is Ref (r ∷ p) ≡ false → clocks_left T (r ∷ p) + counted ≡ clocks_left T p
  unfolding clocks_left
  left_other z =
      let e : owed_to T (r ∷ p) ≡ o + (f + counted) / T = sym (owed-step pos r p) ∙ rw z (omega arith) in
      ap (λ n. n + counted) (left_is (o + (f + counted) / T) e) ∙ left-same pos o f counted (omega arith)

  -- a REF
  pub left-ref : is Ref (r ∷ p) ≡ true → Paid T counted (clocks_left T p) (clocks_left T (r ∷ p))
  unfolding clocks_left
  left-ref y =
      let e : owed_to T (r ∷ p) ≡ o + (f + counted) / T - 1 = sym (owed-step pos r p) ∙ rw y in
      let k = left_is (o + (f + counted) / T - 1) e in
      elim (dec_lt 0 (o + (f + counted) / T)) [
        | yes l ↦ let w = left-paid pos o f counted small (mod-lt (awake_to p) pos) l (omega arith) in inl (ap (λ n. n + counted) k ∙ w.0, w.1)
        | no l ↦ let w = left-full pos o f counted (omega arith) in inr (ap (λ n. n + counted) k ∙ w.0, w.1)
      ]

-- a REF at the edge b, where j clocks were left at the edge a and x pass
paid-is : (T a b x j k : ℕ) → b ≡ a + x → Paid T x j k → paid T b (a + j) ≡ b + k
paid-is T a b x j k e (inl w) = rw (le-leb (a + j) (b + 16 * T) (omega (arith, w.1))) (omega (arith, w.0))
paid-is T a b x j k e (inr w) = rw (lt-leb (a + j) (b + 16 * T) (omega (arith, w.1))) (omega (arith, w.0))

-- the same of a part that sleeps, which no clock passes
paid-by : (T E x j k : ℕ) (s : Bool) → Paid T (cond s 0 x) j k → paid T (cond s 0 (E + x)) (cond s 0 E + j) ≡ cond s 0 (E + x) + k
paid-by T E x j k true h = paid-is T 0 0 0 j k (omega arith) h
paid-by T E x j k false h = paid-is T E (E + x) x j k refl h

-- ── Since the last REF ──────────────────────────────────────────────────────────────────────

module _ (m : ℕ) (r : Record) (p : Past) where
  -- a REF leaves all clocks
  gap-ref : is Ref (r ∷ p) ≡ true → gap_left m (r ∷ p) ≡ m + 1
  unfolding gap_left
  gap-ref y = let z : gap_to (r ∷ p) ≡ 0 = sym (gap_step r p) ∙ rw y in omega arith

  gap_other : gap_to (r ∷ p) ≤ m → is Ref (r ∷ p) ≡ false → gap_left m (r ∷ p) + cond (asleep p) 0 r.step ≡ gap_left m p
  unfolding gap_left
  gap_other l n = let z : gap_to (r ∷ p) ≡ gap_to p + cond (asleep p) 0 r.step = sym (gap_step r p) ∙ rw n in omega arith

-- ── An edge of the debt ─────────────────────────────────────────────────────────────────────

-- a REF is no SRE and no SRX
abbrev Alone : (ref sre srx : Bool) → Type 0
Alone ref sre srx = ref ≡ true → (sre ≡ false) × (srx ≡ false)

-- asleep after the record
abbrev on : (s sre srx : Bool) → Bool
on s sre srx = sre || (not srx && s)

-- the edge E and the step x, asleep or not; j clocks are left before the record and k after it, and a REF puts the edge to q
edge-next :
    (E x j k q : ℕ) (s ref sre srx : Bool) → Alone ref sre srx → (ref ≡ true → q ≡ cond s 0 (E + x) + k) → (ref ≡ false → k + cond s 0 x ≡ j)
    → cond ref q (cond sre (cond s 0 E + j - cond s 0 (E + x)) (cond srx (cond s 0 E + j + cond s (E + x) 0) (cond s 0 E + j)))
    ≡ cond (on s sre srx) 0 (E + x) + k
edge-next E x j k q s true true srx d h g = never refl (d refl).0
edge-next E x j k q s true false true d h g = never refl (d refl).1
edge-next E x j k q s true false false d h g = h refl
edge-next E x j k q true false true srx d h g = let e = g refl in omega arith
edge-next E x j k q false false true srx d h g = let e = g refl in omega arith
edge-next E x j k q true false false true d h g = let e = g refl in omega arith
edge-next E x j k q false false false true d h g = let e = g refl in omega arith
edge-next E x j k q true false false false d h g = let e = g refl in omega arith
edge-next E x j k q false false false false d h g = let e = g refl in omega arith

sleep-next : (s ref sre srx : Bool) → Alone ref sre srx → cond ref s (cond sre true (cond srx false s)) ≡ on s sre srx
sleep-next s true true srx d = never refl (d refl).0
sleep-next s true false true d = never refl (d refl).1
sleep-next s true false false d = refl
sleep-next s false true srx d = refl
sleep-next s false false true d = refl
sleep-next s false false false d = refl

-- ── The next record ─────────────────────────────────────────────────────────────────────────

abbrev debt : Bool → (due gap : ℕ) → Debt
debt s due gap = record { sleeps = s; due = due; gap = gap }

-- each part by itself
by_parts :
    (s ref sre srx : Bool) (q a b c q' a' b' c' : ℕ)
    → cond ref (debt s q q') (cond sre (debt true a a') (cond srx (debt false b b') (debt s c c')))
    ≡ debt (cond ref s (cond sre true (cond srx false s))) (cond ref q (cond sre a (cond srx b c))) (cond ref q' (cond sre a' (cond srx b' c')))
by_parts s true sre srx q a b c q' a' b' c' = refl
by_parts s false true srx q a b c q' a' b' c' = refl
by_parts s false false true q a b c q' a' b' c' = refl
by_parts s false false false q a b c q' a' b' c' = refl

module _ (C : Chip) (pos : 0 < C.trefi) (r : Record) (p : Past) (good : is Bad (r ∷ p) ≡ false) where
  abbrev T : ℕ
  T = C.trefi

  alone : Alone (is Ref (r ∷ p)) (is Sre (r ∷ p)) (is Srx (r ∷ p))
  alone y = (is-other Ref Sre (r ∷ p) (λ z. omega arith) y, is-other Ref Srx (r ∷ p) (λ z. omega arith) y)

  pub debt-next :
      owed_to C.trefi p ≤ 16 → owed_to C.trefi (r ∷ p) ≤ 16 → gap_to (r ∷ p) ≤ C.nine
      → debt_next C (command (r ∷ p)) (edge (r ∷ p)) (debt_of C p) ≡ debt_of C (r ∷ p)
  unfolding debt_next debt_of
  debt-next small after near =
      let moves = edge-next (edge p) r.step in
      by_parts (asleep p) (is Ref (r ∷ p)) (is Sre (r ∷ p)) (is Srx (r ∷ p)) _ _ _ _ _ _ _ _
      ∙ (λ i. debt (sleep-next (asleep p) (is Ref (r ∷ p)) (is Sre (r ∷ p)) (is Srx (r ∷ p)) alone i)
      (moves (clocks_left T p) (clocks_left T (r ∷ p)) _ (asleep p) (is Ref (r ∷ p)) (is Sre (r ∷ p)) (is Srx (r ∷ p)) alone
      (λ y. paid-by T (edge p) r.step (clocks_left T p) (clocks_left T (r ∷ p)) (asleep p) (left-ref pos r p small after y)) (left_other pos r p small after) i)
      (moves (gap_left C.nine p) (gap_left C.nine (r ∷ p)) (cond (asleep p) 0 (edge p + r.step) + C.nine + 1) (asleep p) (is Ref (r ∷ p)) (is Sre (r ∷ p)) (is Srx (r ∷ p)) alone
      (λ y. let z = gap-ref C.nine r p y in omega arith) (gap_other C.nine r p near) i))
      ∙ ap (λ s. debt s (cond s 0 (edge (r ∷ p)) + clocks_left T (r ∷ p)) (cond s 0 (edge (r ∷ p)) + gap_left C.nine (r ∷ p))) (sym (sleeps-on r p good))
