-- A record that shows a row is of that row's kind, by the definition that the rules and the tally go by; and each record shows one row.
-- One test, computed over all levels and all rows.
-- Assumes nothing.
use Prim.Native.Nat.{ℕ, zero, suc, ◌+◌, ◌<◌, ◌≤◌}
use native.Mathlib.Omega.{arith}
use native.Mathlib.Decide.{ℕ_discrete}
use mathlib.Core.Bool.{Bool, true, false, cond, ◌&&◌}
use mathlib.Core.Path.{◌≡◌, refl, sym, ◌∙◌, subst}
use lib.Dec.{eqb, ltb}
use borrow.Author.Tests.{eqb-true, le-ltb, ltb-true, ltb-false}
use Rattle.laws.proofs.Both.{both}
use Rattle.records.specs.declared.Record.{Record}
use Rattle.records.specs.declared.Command.TheVariants.{Low}
use Rattle.records.specs.Command.{by_pins, falling, rising, command_of, a10}
use Rattle.records.specs.Record.{fields_of}
use Rattle.tally.specs.Kinds.{kind_of, kind_at}
use Rattle.glossary.specs.declared.Row.{Row}
use Rattle.glossary.specs.Glossary.{rows, row_of, shows_by, shows, shown_below}

-- the kind, by levels alone
abbrev kind_by : (before now asleep : Bool) (pins : ℕ) (a10 : Bool) → ℕ
kind_by before now asleep pins a = kind_of (cond before (cond now (by_pins pins) (falling pins)) (cond now (rising asleep pins) Low)) a

kind-by : (before asleep : Bool) (r : Record) → kind_at before asleep r ≡ kind_by before r.cke asleep r.pins (a10 r)
unfolding kind_at command_of
kind-by before asleep r = refl

-- ── One test ────────────────────────────────────────────────────────────────────────────────

-- f at each number below n
abbrev pub each : (n : ℕ) → (ℕ → Bool) → Bool
each zero f = true
each (suc n) f = each n f && f n

pub each_at : (n : ℕ) (f : ℕ → Bool) → each n f ≡ true → (k : ℕ) → k < n → f k ≡ true
each_at zero f h k l = absurd (omega arith)
each_at (suc n) f h k l = elim (ℕ_discrete k n) [
  | yes e ↦ subst (λ (m : ℕ). f m ≡ true) (sym e) (both (each n f) (f n) h).1
  | no e ↦ each_at n f (both (each n f) (f n) h).0 k (omega arith)
]

abbrev each_level : (Bool → Bool) → Bool
each_level f = f true && f false

level-at : (f : Bool → Bool) → each_level f ≡ true → (b : Bool) → f b ≡ true
level-at f h true = (both (f true) (f false) h).0
level-at f h false = (both (f true) (f false) h).1

-- at a place: a row that is shown has the kind
abbrev agrees : (before now asleep : Bool) (pins : ℕ) (a10 : Bool) (place : ℕ) → Bool
agrees before now asleep pins a i = cond (shows_by (row_of i) before now asleep pins a) (eqb (kind_by before now asleep pins a) (row_of i).kind) true

abbrev shown_of : (n : ℕ) → (before now asleep : Bool) (pins : ℕ) (a10 : Bool) → ℕ
shown_of zero before now asleep pins a = 0
shown_of (suc n) before now asleep pins a = cond (shows_by (row_of n) before now asleep pins a) 1 0 + shown_of n before now asleep pins a

abbrev right : (before now asleep a10 : Bool) (pins : ℕ) → Bool
right before now asleep a pins = each 28 (agrees before now asleep pins a) && eqb (shown_of 28 before now asleep pins a) 1

all_right : each_level (λ before. each_level (λ now. each_level (λ asleep. each_level (λ a. each 16 (right before now asleep a))))) ≡ true
unfolding rows row_of by_pins falling rising
all_right = refl

right-at : (before now asleep a : Bool) (pins : ℕ) → pins < 16 → right before now asleep a pins ≡ true
right-at before now asleep a pins l =
    each_at 16 (right before now asleep a)
    (level-at (λ c. each 16 (right before now asleep c))
    (level-at (λ z. each_level (λ c. each 16 (right before now z c)))
    (level-at (λ n. each_level (λ z. each_level (λ c. each 16 (right before n z c))))
    (level-at (λ b. each_level (λ n. each_level (λ z. each_level (λ c. each 16 (right b n z c))))) all_right before) now) asleep) a) pins l

-- ── What the rows say ───────────────────────────────────────────────────────────────────────

-- behind the last place there is the last row again
pub last_row : (i : ℕ) → 28 ≤ i → row_of i ≡ row_of 27
unfolding row_of
last_row i h = rw (le-ltb i 27 (omega arith))

module _ (before asleep : Bool) (r : Record) (fit : r.pins < 16) where
  -- by levels
  parts : (each 28 (agrees before r.cke asleep r.pins (a10 r)) ≡ true) × (eqb (shown_of 28 before r.cke asleep r.pins (a10 r)) 1 ≡ true)
  parts =
      both (each 28 (agrees before r.cke asleep r.pins (a10 r))) (eqb (shown_of 28 before r.cke asleep r.pins (a10 r)) 1)
      (right-at before r.cke asleep (a10 r) r.pins fit)

  kind-below : (i : ℕ) → i < 28 → shows (row_of i) before asleep r ≡ true → kind_at before asleep r ≡ (row_of i).kind
  kind-below i l h =
      kind-by before asleep r
      ∙ eqb-true (kind_by before r.cke asleep r.pins (a10 r)) (row_of i).kind
      (rw h at (each_at 28 (agrees before r.cke asleep r.pins (a10 r)) parts.0 i l))

  -- a record that shows a row is of its kind
  pub row-gives-kind : (i : ℕ) → shows (row_of i) before asleep r ≡ true → kind_at before asleep r ≡ (row_of i).kind
  row-gives-kind i h = go (ltb i 28) refl
    where
      go : (y : Bool) → ltb i 28 ≡ y → kind_at before asleep r ≡ (row_of i).kind
      go true e = kind-below i (ltb-true i 28 e) h
      go false e =
          let same = last_row i (ltb-false i 28 e) in
          subst (λ (w : Row). kind_at before asleep r ≡ w.kind) (sym same)
          (kind-below 27 (omega arith) (subst (λ (w : Row). shows w before asleep r ≡ true) same h))

  -- each record shows one row, and no other
  pub one-row : shown_below 28 before asleep r ≡ 1
  one-row = eqb-true (shown_below 28 before asleep r) 1 parts.1

-- the pins of a record of the recording are four bits
pub pins-fit : (word : ℕ) → (fields_of word).pins < 16
unfolding fields_of
pins-fit word = omega arith
