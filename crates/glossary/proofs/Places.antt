-- The search for the first row of a kind, a row at a time; each kind has its row, and the count in it is that of the whole recording.
-- Assumes nothing.
use Prim.Native.Nat.{ℕ, suc, ◌+◌, ◌-◌, ◌<◌}
use native.Mathlib.Omega.{arith}
use mathlib.Core.Bool.{true, false, cond}
use mathlib.Core.Logic.{⊎_elim}
use mathlib.Core.Path.{◌≡◌, refl}
use lib.Dec.{eqb, ltb}
use borrow.Author.Tests.{ne_eqb, eqb-true, lt-ltb, ltb-true, ltb-false}
use Rattle.std.specs.Prelude.{min}
use Rattle.rules.specs.Past.{Past}
use Rattle.rules.proofs.Generic.{decide}
use Rattle.tally.specs.Counts.{count_of, tally_of}
use Rattle.tally.proofs.Nineteen.{at-nineteen}
use Rattle.glossary.specs.Glossary.{rows, row_of, within, place_from, place_of, line_of}
use Rattle.glossary.proofs.Rows.{each, each_at, last_row}

unroll : (i k : ℕ) → i < 27 → place_from (27 - i) i k ≡ cond (eqb (row_of i).kind k) i (place_from (27 - (i + 1)) (i + 1) k)
unroll i k h =
    let e : 27 - i ≡ suc (27 - (i + 1)) = omega arith in
    rw e

pub passed : (i k : ℕ) → i < 27 → ((row_of i).kind ≡ k → ⊥) → place_from (27 - i) i k ≡ place_from (27 - (i + 1)) (i + 1) k
passed i k h n = rw (unroll i k h, ne_eqb _ _ n)

pub whole : (k : ℕ) → place_from (27 - 0) 0 k ≡ place_of k
unfolding place_of
whole k = refl

-- a place, or the last one
pub within_is : (m i : ℕ) → min i m ≡ within m i
within_is m i = ⊎_elim
    (λ (y : ltb i m ≡ true). rw y (omega (arith, ltb-true _ _ y)))
    (λ (n : ltb i m ≡ false). rw n (omega (arith, ltb-false _ _ n)))
    (decide (ltb i m))

-- ── Kinds and rows ──────────────────────────────────────────────────────────────────────────

-- each kind has a row
every-kind : each 19 (λ k. eqb (row_of (place_of k)).kind k) ≡ true
unfolding rows row_of place_of
every-kind = refl

pub row-of-kind : (k : ℕ) → k < 19 → (row_of (place_of k)).kind ≡ k
row-of-kind k h = eqb-true _ _ (each_at 19 (λ j. eqb (row_of (place_of j)).kind j) every-kind k h)

-- and each row a kind
every-row : each 28 (λ i. ltb (row_of i).kind 19) ≡ true
unfolding rows row_of
every-row = refl

kind-below : (i : ℕ) → (row_of i).kind < 19
kind-below i = ⊎_elim
    (λ (y : ltb i 28 ≡ true). at i (ltb-true _ _ y))
    (λ (n : ltb i 28 ≡ false). rw (last_row i (ltb-false _ _ n)) (at 27 (omega arith)))
    (decide (ltb i 28))
  where
    at : (j : ℕ) → j < 28 → (row_of j).kind < 19
    at j l = ltb-true _ _ (each_at 28 (λ m. ltb (row_of m).kind 19) every-row j l)

-- the count in a row is that of the row's kind over the whole recording
pub line-counts : (i : ℕ) (p : Past) → (line_of i (tally_of p).counts).count ≡ count_of (row_of i).kind p
unfolding line_of
line-counts i p = rw (lt-ltb _ _ (kind-below i)) (at-nineteen (λ k. count_of k p) (row_of i).kind (kind-below i))
