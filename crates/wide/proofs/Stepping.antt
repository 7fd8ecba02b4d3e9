-- The loop that sums the steps of a section's records: what remains leads to what the whole section gives; and how far they go.
-- Assumes nothing.
use Prim.Native.Nat.{ℕ, ◌+◌, ◌*◌, ◌/◌, ◌%◌, ◌≤◌, ◌<◌}
use native.Mathlib.Omega.{arith}
use mathlib.Core.Bool.{Bool, false, not, ◌||◌, or_assoc}
use mathlib.Core.List.{List, [], ◌∷◌, map}
use mathlib.Core.Path.{◌≡◌, sym, ap, ◌∙◌}
use lib.Dec.{eqb}
use lib.ListN.{length, take, length-take}
use lib.Seq.{take_all}
use Rattle.records.specs.Pieces.{pieces}
use Rattle.records.specs.Record.{has_zero, steps_of}
use Rattle.records.proofs.Pieces.{length-pieces}
use Rattle.wide.specs.declared.Wide.{Wide}
use Rattle.wide.specs.declared.Steps.{Steps}
use Rattle.wide.specs.Wide.{fields_of, word_at, wide_at, wides, rank_of, has_spare}
use Rattle.wide.specs.Steps.{steps_seen}
use Rattle.wide.proofs.Wides.{rank_step, wide-step-small}
use Rattle.wide.proofs.Seeing.{either}

-- ── A word's step and zero bits ─────────────────────────────────────────────────────────────

word-step : (w : ℕ) → w < 18446744073709551616 → (fields_of w).step ≡ w / 1099511627776
unfolding fields_of
word-step w small = omega arith

word-zero : (w : ℕ) → (fields_of w).zero ≡ w % 8192
unfolding fields_of
word-zero w = omega arith

-- ── The loop ────────────────────────────────────────────────────────────────────────────────

-- what was seen, and what the records give
abbrev pub steps_from : (sum : ℕ) (zero spare : Bool) → List Wide → Steps
steps_from sum zero spare ws = record {
  sum = sum + steps_of (map (rank_of false) ws);
  zero = zero || has_zero (map (rank_of false) ws);
  spare = spare || has_spare ws;
}

one_more_lem : (sum : ℕ) (zero spare : Bool) (w : Wide) (ws : List Wide)
    → steps_from sum zero spare (w ∷ ws) ≡ steps_from (sum + w.step) (zero || eqb w.step 0) (spare || not (eqb w.zero 0)) ws
unfolding rank_of
one_more_lem sum zero spare w ws = λ i. record {
  sum = further i;
  zero = either (eqb w.step 0) zero (has_zero (map (rank_of false) ws)) i;
  spare = sym (or_assoc spare (not (eqb w.zero 0)) (has_spare ws)) i;
}
  where
    further : sum + (w.step + steps_of (map (rank_of false) ws)) ≡ sum + w.step + steps_of (map (rank_of false) ws)
    further = omega arith

-- a record more, by its word
pub steps-one : (sum : ℕ) (zero spare : Bool) (p : List ℕ) (ws : List Wide) (w : ℕ) → w ≡ word_at p 0 → w < 18446744073709551616
    → steps_from sum zero spare (wide_at p 0 ∷ ws)
    ≡ steps_from (sum + w / 1099511627776) (zero || eqb (w / 1099511627776) 0) (spare || not (eqb (w % 8192) 0)) ws
steps-one sum zero spare p ws w is fits =
    one_more_lem sum zero spare (wide_at p 0) ws
    ∙ (λ i. steps_from (sum + sym step i) (zero || eqb (sym step i) 0) (spare || not (eqb (sym bits i) 0)) ws)
  where
    step : w / 1099511627776 ≡ (wide_at p 0).step
    step = sym (word-step w fits) ∙ ap (λ (v : ℕ). (fields_of v).step) is

    bits : w % 8192 ≡ (wide_at p 0).zero
    bits = sym (word-zero w) ∙ ap (λ (v : ℕ). (fields_of v).zero) is

-- 1,048,576 records at most
pub at_most : (bs : List ℕ) → length (take 8388608 bs) ≤ 8388608
at_most bs = omega (arith, length-take 8388608 bs)

-- if there are no more, all
pub steps_all : (bs : List ℕ) → length bs ≤ 8388608 → steps_seen (wides (take 8388608 bs)) ≡ steps_seen (wides bs)
steps_all bs few = ap (λ xs. steps_seen (wides xs)) (take_all 8388608 bs few)

-- ── How far ─────────────────────────────────────────────────────────────────────────────────

steps-most : (ps : List (List ℕ)) → steps_of (map (rank_of false) (map (λ xs. wide_at xs 0) ps)) ≤ length ps * 16777216
steps-most [] = omega arith
steps-most (p ∷ ps) = omega (arith, rank_step false (wide_at p 0), wide-step-small p 0, steps-most ps)

-- a step has 24 bits
pub steps-small : (bs : List ℕ) → (steps_seen (wides bs)).sum ≤ length bs / 8 * 16777216
steps-small bs = omega (arith, steps-most (pieces 8 bs), length-pieces 8 bs)
