-- The records of a section in edition 2: the next, none, those of two parts, how many; zero bits and ways back of two parts.
-- Assumes nothing.
use Prim.Native.Nat.{ℕ, ◌+◌, ◌/◌, ◌%◌, ◌≤◌, ◌<◌}
use native.Mathlib.Nat.{add-zero}
use native.Mathlib.Omega.{arith}
use mathlib.Core.Bool.{Bool, true, false, cond, not, ◌||◌, or_assoc}
use mathlib.Core.List.{List, [], ◌∷◌, ◌++◌, map}
use mathlib.Core.Path.{◌≡◌, refl, sym, ap, ◌∙◌}
use lib.Dec.{eqb}
use lib.ListN.{length, take, drop, length-drop, length-map}
use lib.Seq.{get_or-take, get_or-drop, drop-drop}
use Rattle.laws.proofs.Both.{neither}
use Rattle.records.specs.Pieces.{pieces}
use Rattle.records.specs.Record.{has_zero, steps_of}
use Rattle.records.proofs.Pieces.{length-pieces, no-piece, next-piece, pieces-append, map-append}
use Rattle.wide.specs.declared.Wide.{Wide}
use Rattle.wide.specs.Wide.{wide_at, wides, rank_of, has_spare, returns, cannot_return}
use Rattle.wide.proofs.WideWords.{wide_fits}

front : (bs : List ℕ) → wide_at (take 8 bs) 0 ≡ wide_at bs 0
front bs =
    rw (get_or-take 8 bs 0 0 (omega arith), get_or-take 8 bs 1 0 (omega arith), get_or-take 8 bs 2 0 (omega arith), get_or-take 8 bs 3 0 (omega arith), get_or-take 8 bs 4 0 (omega arith), get_or-take 8 bs 5 0 (omega arith), get_or-take 8 bs 6 0 (omega arith), get_or-take 8 bs 7 0 (omega arith))

pub piece-at : (bs : List ℕ) (at : ℕ) → wide_at (take 8 (drop at bs)) 0 ≡ wide_at bs at
piece-at bs at = front (drop at bs) ∙ simp (get_or-drop, add-zero)

pub wide_at_lem : (bs : List ℕ) (at : ℕ) → at + 8 ≤ length bs → wides (drop at bs) ≡ wide_at bs at ∷ wides (drop (at + 8) bs)
wide_at_lem bs at h =
    ap (map (λ xs. wide_at xs 0)) (next-piece 8 (omega arith) (drop at bs) (simp length-drop (omega arith)))
    ∙ (λ i. piece-at bs at i ∷ wides (drop-drop 8 at bs i))

pub no-wide : (bs : List ℕ) → length bs < 8 → wides bs ≡ []
no-wide bs few = ap (map (λ xs. wide_at xs 0)) (no-piece 8 bs few)

pub wides-append : (xs ys : List ℕ) → length xs % 8 ≡ 0 → wides (xs ++ ys) ≡ wides xs ++ wides ys
wides-append xs ys h =
    ap (map (λ zs. wide_at zs 0)) (pieces-append 8 (omega arith) xs ys h) ∙ map-append (λ zs. wide_at zs 0) (pieces 8 xs) (pieces 8 ys)

-- a record takes eight bytes
pub length-wides : (bs : List ℕ) → length (wides bs) ≡ length bs / 8
length-wides bs = length-map (pieces 8 bs) (λ xs. wide_at xs 0) ∙ length-pieces 8 bs

-- a step has 24 bits
pub wide-step-small : (bs : List ℕ) (at : ℕ) → (wide_at bs at).step < 16777216
wide-step-small bs at = (wide_fits _).step_fits

-- a rank sees the record's step
pub rank_step : (second : Bool) (w : Wide) → (rank_of second w).step ≡ w.step
unfolding rank_of
rank_step second w = refl

-- so a step of 0 is one for both
pub rank-zero : (second : Bool) (ws : List Wide) → has_zero (map (rank_of second) ws) ≡ has_zero (map (rank_of false) ws)
unfolding rank_of
rank-zero second [] = refl
rank-zero second (w ∷ ws) = ap (λ b. cond (eqb w.step 0) true b) (rank-zero second ws)

-- and the steps come to as much
pub rank-steps : (second : Bool) (ws : List Wide) → steps_of (map (rank_of second) ws) ≡ steps_of (map (rank_of false) ws)
unfolding rank_of
rank-steps second [] = refl
rank-steps second (w ∷ ws) = ap (λ (n : ℕ). w.step + n) (rank-steps second ws)

-- ── Of two parts ────────────────────────────────────────────────────────────────────────────

pub spare_of : (rs ss : List Wide) → has_spare (rs ++ ss) ≡ has_spare rs || has_spare ss
spare_of [] ss = refl
spare_of (w ∷ rs) ss = ap (λ b. not (eqb w.zero 0) || b) (spare_of rs ss) ∙ sym (or_assoc (not (eqb w.zero 0)) (has_spare rs) (has_spare ss))

pub spare-append : (rs ss : List Wide) → has_spare (rs ++ ss) ≡ false → (has_spare rs ≡ false) × (has_spare ss ≡ false)
spare-append rs ss e = neither (has_spare rs) (has_spare ss) (sym (spare_of rs ss) ∙ e)

pub spare-joined : (rs ss : List Wide) → has_spare rs ≡ false → has_spare ss ≡ false → has_spare (rs ++ ss) ≡ false
spare-joined rs ss e f = spare_of rs ss ∙ rw (e, f)

pub stays_of : (rs ss : List Wide) → cannot_return (rs ++ ss) ≡ cannot_return rs || cannot_return ss
stays_of [] ss = refl
stays_of (w ∷ rs) ss = ap (λ b. not (returns w) || b) (stays_of rs ss) ∙ sym (or_assoc (not (returns w)) (cannot_return rs) (cannot_return ss))
