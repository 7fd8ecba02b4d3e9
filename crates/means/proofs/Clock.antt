-- The awake clock and the refresh debt go edge by edge as 01 says, and what it is to be asleep.
-- Assumes nothing.
use Prim.Native.Nat.{ℕ, ◌+◌, ◌-◌, ◌*◌, ◌/◌, ◌%◌, ◌≤◌, ◌<◌}
use native.Mathlib.Nat.{div-add-mod', le-div_iff_mul-le, div-lt_iff_lt-mul, lt-div-mul-add, div-mul-le_self, add-mul, mul-mod_left}
use native.Mathlib.Omega.{arith}
use mathlib.Core.Path.{◌≡◌, refl, sym, ap, ◌∙◌}
use mathlib.Core.Logic.{◌↔◌, ⊎_elim}
use mathlib.Core.Bool.{Bool, true, false, cond, not, ◌&&◌, ◌||◌}
use mathlib.Core.List.{[], ◌∷◌}
use lib.Dec.{eqb, leb}
use borrow.Author.Tests.{eqb-true, eqb-false, leb-true, leb-false, eq-eqb, ne_eqb}
use Rattle.records.specs.declared.Record.{Record}
use Rattle.records.specs.declared.Command.TheVariants.{Ref, Sre}
use Rattle.rules.specs.Past.{Past, edge, number, changes, asleep, is, latest, up_to, ◌∈◌, here, there}
use Rattle.rules.specs.Deadlines.{awake_to, awake_at, owed_to, owed_at, since_ref}
use Rattle.rules.specs.Verdict.{Apart}
use Rattle.rules.proofs.Generic.{decide, edge-le}
use Rattle.rules.proofs.Events.{never, push, latest-is}
use Rattle.rules.proofs.Sleeping.{asleep-by-changes}
use Rattle.rules.proofs.UpTo.{up-to-all, up-to-skip, up-to-edge, up_to_zero}
use Rattle.rules.proofs.Debts.{owed-now}
use Rattle.means.proofs.Partners.{latest-sense, latest-one}
use Rattle.means.specs.Clock.{awake, owed, Asleep, sleeps, ticks, refreshes, By-edge}

-- ── A quotient goes up by one at each multiple ──────────────────────────────────────────────

module _ {T : ℕ} (h : 0 < T) (a : ℕ) where
  at-multiple : (a + 1) % T ≡ 0 → (a + 1) / T ≡ a / T + 1
  at-multiple z =
      let y = (a + 1) / T in
      let whole : y * T + (a + 1) % T ≡ a + 1 = div-add-mod' (a + 1) T in
      let low : a / T < y = (div-lt_iff_lt-mul h).1 (omega arith) in
      let top : (a + 1) / T < a / T + 2 = (div-lt_iff_lt-mul h).1 (omega (arith, add-mul (a / T) 2 T, lt-div-mul-add {a = a} h)) in
      omega arith

  between : ((a + 1) % T ≡ 0 → ⊥) → (a + 1) / T ≡ a / T
  between n =
      let low : a / T ≤ (a + 1) / T = (le-div_iff_mul-le h).1 (omega (arith, div-mul-le_self a T)) in
      let apart : (a + 1 ≡ (a / T + 1) * T → ⊥) = λ e. n (ap (λ m. m % T) e ∙ mul-mod_left (a / T + 1) T) in
      let top : (a + 1) / T < a / T + 1 = (div-lt_iff_lt-mul h).1 (omega (arith, add-mul (a / T) 1 T, lt-div-mul-add {a = a} h, apart)) in
      omega arith

  quotient-next : (a + 1) / T ≡ a / T + cond (eqb ((a + 1) % T) 0) 1 0
  quotient-next = ⊎_elim
      (λ (y : eqb ((a + 1) % T) 0 ≡ true). rw y (at-multiple (eqb-true _ _ y)))
      (λ (z : eqb ((a + 1) % T) 0 ≡ false). rw z (between (eqb-false _ _ z) ∙ omega arith))
      (decide (eqb ((a + 1) % T) 0))

-- ── From an edge to the next, with no record there ──────────────────────────────────────────

module _ (p : Past) (t : ℕ) (later : edge p ≤ t) where
  awake-on : awake_at p (t + 1) ≡ awake_at p t + cond (asleep p) 0 1
  unfolding awake_at
  awake-on = go (asleep p)
    where
      go : (s : Bool) → awake_to p + cond s 0 (t + 1 - edge p) ≡ awake_to p + cond s 0 (t - edge p) + cond s 0 1
      go true = omega arith
      go false = omega arith

  module _ {T : ℕ} (h : 0 < T) where
    intervals-grow : awake_to p / T ≤ awake_at p t / T
    unfolding awake_at
    intervals-grow = (le-div_iff_mul-le h).1 (omega (arith, div-mul-le_self (awake_to p) T))

    owed-on : owed_at T p (t + 1) ≡ owed_at T p t + cond (not (asleep p) && eqb (awake_at p (t + 1) % T) 0) 1 0
    unfolding owed_at
    owed-on = go (asleep p) awake-on
      where
        go : (s : Bool) → awake_at p (t + 1) ≡ awake_at p t + cond s 0 1
            → owed_to T p + (awake_at p (t + 1) / T - awake_to p / T)
            ≡ owed_to T p + (awake_at p t / T - awake_to p / T) + cond (not s && eqb (awake_at p (t + 1) % T) 0) 1 0
        go true e = let same : awake_at p (t + 1) ≡ awake_at p t = omega arith in rw same (omega arith)
        go false e = rw e (omega (arith, quotient-next h (awake_at p t), intervals-grow))

-- ── The record at the next edge ─────────────────────────────────────────────────────────────

-- the edge behind t has no record, or one after the records up to t
data Next (q : Past) (t : ℕ) : Type 0 where
  silent : up_to (t + 1) q ≡ up_to t q → refreshes q (t + 1) ≡ false → Next q t
  stands : (r : Record) (p : Past) → up_to (t + 1) q ≡ r ∷ p → up_to t q ≡ p → edge (r ∷ p) ≡ t + 1 → refreshes q (t + 1) ≡ is Ref (r ∷ p) → Next q t

elsewhere : (x y : Bool) → x && false || y ≡ y
elsewhere true y = refl
elsewhere false y = refl

alone : (x : Bool) → x && true || false ≡ x
alone true = refl
alone false = refl

none-later : (p : Past) (t : ℕ) → edge p < t → refreshes p t ≡ false
none-later [] t l = refl
none-later (r ∷ p) t l = rw (ne_eqb (edge (r ∷ p)) t (λ e. omega arith)) (elsewhere (is Ref (r ∷ p)) (refreshes p t) ∙ none-later p t (omega arith))

next : (q : Past) (t : ℕ) → Apart q → Next q t
next [] t a = silent refl refl
next (r ∷ p) t a = ⊎_elim
    (λ (y : leb (edge (r ∷ p)) t ≡ true).
    let l : edge (r ∷ p) ≤ t = leb-true _ _ y in
    silent (up-to-all (t + 1) (r ∷ p) (omega arith) ∙ sym (up-to-all t (r ∷ p) l)) (none-later (r ∷ p) (t + 1) (omega arith)))
    (λ (z : leb (edge (r ∷ p)) t ≡ false).
    ⊎_elim
    (λ (e : eqb (edge (r ∷ p)) (t + 1) ≡ true). here (eqb-true _ _ e))
    (λ (n : eqb (edge (r ∷ p)) (t + 1) ≡ false). older (leb-false _ _ z) (eqb-false _ _ n) (next p t a.1))
    (decide (eqb (edge (r ∷ p)) (t + 1))))
    (decide (leb (edge (r ∷ p)) t))
  where
    here : edge (r ∷ p) ≡ t + 1 → Next (r ∷ p) t
    here e =
        let first : 1 ≤ r.step = a.0 in
        stands r p (up-to-all (t + 1) (r ∷ p) (omega arith)) (up-to-skip t r p (omega arith) ∙ up-to-all t p (omega arith)) e
        (rw (eq-eqb (edge (r ∷ p)) (t + 1) e, none-later p (t + 1) (omega arith)) (alone (is Ref (r ∷ p))))

    older : t < edge (r ∷ p) → (edge (r ∷ p) ≡ t + 1 → ⊥) → Next p t → Next (r ∷ p) t
    older l n (silent e f) =
        silent (up-to-skip (t + 1) r p (omega (arith, n)) ∙ e ∙ sym (up-to-skip t r p l))
        (rw (ne_eqb (edge (r ∷ p)) (t + 1) n) (elsewhere (is Ref (r ∷ p)) (refreshes p (t + 1)) ∙ f))
    older l n (stands s u e f g b) =
        stands s u (up-to-skip (t + 1) r p (omega (arith, n)) ∙ e) (up-to-skip t r p l ∙ f) g
        (rw (ne_eqb (edge (r ∷ p)) (t + 1) n) (elsewhere (is Ref (r ∷ p)) (refreshes p (t + 1)) ∙ b))

module _ (r : Record) (p : Past) (t : ℕ) (at : edge (r ∷ p) ≡ t) where
  awake-record : awake_at (r ∷ p) t ≡ awake_at p t
  unfolding awake_at awake_to
  awake-record = go (asleep p) (asleep (r ∷ p))
    where
      go : (x y : Bool) → awake_to p + cond x 0 r.step + cond y 0 (t - edge (r ∷ p)) ≡ awake_to p + cond x 0 (t - edge p)
      go true true = omega arith
      go true false = omega arith
      go false true = omega arith
      go false false = omega arith

  owed-record : {T : ℕ} → 0 < T → owed_at T (r ∷ p) t ≡ owed_at T p t - cond (is Ref (r ∷ p)) 1 0
  unfolding owed_at owed_to
  owed-record {T} h = rw (← at) (owed-now h (r ∷ p))

-- ── The theorem ─────────────────────────────────────────────────────────────────────────────

-- ── The clock at an event ───────────────────────────────────────────────────────────────────

-- right after its latest record
awake-now : (s : Past) → awake_at s (edge s) ≡ awake_to s
unfolding awake_at
awake-now s = go (asleep s)
  where
    go : (x : Bool) → awake_to s + cond x 0 (edge s - edge s) ≡ awake_to s
    go true = omega arith
    go false = omega arith

-- up to the edge of an event of q there is that event, and what was before it
up-to-own : {s q : Past} → Apart q → s ∈ q → up_to (edge s) q ≡ s
up-to-own a (here {r = r} {p = p}) = up-to-all (edge (r ∷ p)) (r ∷ p) (omega arith)
up-to-own {s = s} a (there {r = r} {p = p} i) =
    let first : 1 ≤ r.step = a.0 in up-to-skip (edge s) r p (omega (arith, edge-le i)) ∙ up-to-own a.1 i

up-to-in : (t : ℕ) (q : Past) {s : Past} → s ∈ up_to t q → s ∈ q
up-to-in t [] i = i
up-to-in t (r ∷ q) {s} i = go (leb (edge (r ∷ q)) t) i (up-to-in t q)
  where
    go : (x : Bool) → s ∈ cond x (r ∷ q) (up_to t q) → (s ∈ up_to t q → s ∈ q) → s ∈ r ∷ q
    go true j older = j
    go false j older = there (older j)

awake-event : (q : Past) → Apart q → (k : Past → Bool) (t : ℕ) → awake q (edge (latest k (up_to t q))) ≡ awake_to (latest k (up_to t q))
unfolding awake_to
awake-event q a k t = ⊎_elim
    (λ (e : latest k (up_to t q) ≡ []). rw (e, up_to_zero q a) (awake-now []))
    (λ w. ap (λ p. awake_at p (edge (latest k (up_to t q)))) (up-to-own a (up-to-in t q w.0)) ∙ awake-now (latest k (up_to t q)))
    (latest-is k (up_to t q))

module _ {T : ℕ} (h : 0 < T) (q : Past) (apart : Apart q) where
  since-on : (t : ℕ) → since_ref (up_to t q) (t + 1) ≡ awake q (t + 1) - awake q (edge (latest (is Ref) (up_to t q)))
  unfolding since_ref
  since-on t = go (next q t apart)
    where
      by : awake_at (up_to t q) (t + 1) ≡ awake q (t + 1)
          → awake_at (up_to t q) (t + 1) - awake_to (latest (is Ref) (up_to t q)) ≡ awake q (t + 1) - awake q (edge (latest (is Ref) (up_to t q)))
      by e = λ i. e i - sym (awake-event q apart (is Ref) t) i

      go : Next q t → awake_at (up_to t q) (t + 1) - awake_to (latest (is Ref) (up_to t q)) ≡ awake q (t + 1) - awake q (edge (latest (is Ref) (up_to t q)))
      go (silent e n) = by (ap (λ p. awake_at p (t + 1)) (sym e))
      go (stands r p e f at n) = by (ap (λ p. awake_at p (t + 1)) f ∙ sym (awake-record r p (t + 1) at) ∙ ap (λ p. awake_at p (t + 1)) (sym e))

  clock-on : (t : ℕ) → awake q (t + 1) ≡ awake q t + cond (sleeps q t) 0 1
  clock-on t = go (next q t apart)
    where
      go : Next q t → awake q (t + 1) ≡ awake q t + cond (sleeps q t) 0 1
      go (silent e n) = rw e (awake-on (up_to t q) t (up-to-edge t q))
      go (stands r p e f at n) =
          let older : edge p ≤ t = rw f at (up-to-edge t q) in
          rw (e, f) (awake-record r p (t + 1) at ∙ awake-on p t older)

  debt-on : (t : ℕ) → owed T q (t + 1) ≡ owed T q t + cond (ticks T q t) 1 0 - cond (refreshes q (t + 1)) 1 0
  debt-on t = go (next q t apart)
    where
      go : Next q t → owed T q (t + 1) ≡ owed T q t + cond (ticks T q t) 1 0 - cond (refreshes q (t + 1)) 1 0
      go (silent e n) = rw (e, n) (owed-on (up_to t q) t (up-to-edge t q) h ∙ omega arith)
      go (stands r p e f at n) =
          let older : edge p ≤ t = rw f at (up-to-edge t q) in
          rw (e, f, n, awake-record r p (t + 1) at)
          (owed-record r p (t + 1) at h ∙ ap (λ x. x - cond (is Ref (r ∷ p)) 1 0) (owed-on p t older h))

  -- "Refresh debt starts at 0, rises by 1 .."; "The awake clock counts edges from 1, but not .."
  pub debt-by-edge : By-edge T q
  unfolding owed_at owed_to awake_at awake_to asleep
  debt-by-edge = record { clock-starts = rw (up_to_zero q apart); clock = clock-on; debt-starts = rw (up_to_zero q apart) (omega arith); debt = debt-on; since = since-on }

-- ── Asleep ──────────────────────────────────────────────────────────────────────────────────

last-tells : (p : Past) → asleep p ≡ is Sre (latest changes p)
unfolding asleep
last-tells [] = refl
last-tells (r ∷ p) = asleep-by-changes r p ∙ (λ i. cond (changes (r ∷ p)) (is Sre (r ∷ p)) (last-tells p i)) ∙ push (is Sre) (changes (r ∷ p)) (r ∷ p) (latest changes p)

some-sre : (s : Past) → is Sre s ≡ true → 1 ≤ number s
some-sre [] y = never y refl
some-sre (r ∷ s) y = omega arith

pub asleep-means : (p : Past) → (asleep p ≡ true) ↔ Asleep p
asleep-means p =
    let last = latest changes p in (
      λ h. let sre = sym (last-tells p) ∙ h in (last, latest-sense changes p (some-sre last sre), sre),
      λ w. last-tells p ∙ ap (is Sre) (latest-one changes p w.0 w.1) ∙ w.2,
    )
