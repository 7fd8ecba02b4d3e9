-- "There and back gives the same bytes, from either side", and back is allowed just where it does: 02, Q-7.
-- Assumes nothing.
use Prim.Native.Nat.{ℕ, ◌+◌, ◌*◌, ◌/◌, ◌%◌}
use native.Mathlib.Omega.{arith}
use mathlib.Core.Bool.{Bool, true, false, not}
use mathlib.Core.List.{List, [], ◌∷◌, map, map-map}
use mathlib.Core.Logic.{◌↔◌}
use mathlib.Core.Path.{◌≡◌, refl, sym, ap, ◌∙◌}
use lib.Dec.{eqb}
use lib.ListN.{length}
use borrow.Author.Tests.{eqb-true, not-false}
use Rattle.laws.proofs.Both.{both, neither}
use Rattle.records.specs.declared.Record.{Record}
use Rattle.records.specs.Pieces.{pieces}
use Rattle.records.specs.Record as old
use Rattle.wide.specs.declared.Wide.{Wide}
use Rattle.wide.specs.Spread.{spread, Bytes}
use Rattle.wide.specs.Wide.{wide_at, wides, level, rank_of, has_spare, returns, cannot_return}
use Rattle.wide.specs.Moved.{packed, bytes6, packed_wide, bytes8, widened, widen, narrow}
use Rattle.wide.proofs.Spreading.{spread-map, map-ext, pieces_kept}
use Rattle.wide.proofs.Words.{Fits, bit, narrow-fits, written6}
use Rattle.wide.proofs.WideWords.{FitsWide, wide_fits, written8}
use Rattle.wide.proofs.Moving.{records-narrow, wides-widen}

-- ── From edition 1 ──────────────────────────────────────────────────────────────────────────

back_one : (r : Record) → Fits r → rank_of false (widened r) ≡ r
unfolding rank_of widened
back_one r f = λ i. record { step = r.step; cke = r.cke; pins = pins i; bank = r.bank; a = r.a }
  where
    pins : level (eqb (r.pins / 8 % 2) 1) * 8 + r.pins % 8 ≡ r.pins
    pins = rw (bit (r.pins / 8 % 2) (omega arith)) (omega (arith, f.pins-fit))

-- the first rank of a widened recording is the recording
pub rank-widened : (bs : List ℕ) → map (rank_of false) (wides (widen bs)) ≡ old.records bs
rank-widened bs =
    ap (map (rank_of false)) (wides-widen bs) ∙ map-map (rank_of false) widened (old.records bs)
    ∙ map-map (λ r. rank_of false (widened r)) (λ xs. old.record_at xs 0) (pieces 6 bs)
    ∙ map-ext (λ xs. rank_of false (widened (old.record_at xs 0))) (λ xs. old.record_at xs 0) (λ xs. back_one (old.record_at xs 0) (narrow-fits _)) (pieces 6 bs)

written-records : (bs : List ℕ) → Bytes bs → length bs % 6 ≡ 0 → spread (λ r. bytes6 (packed r)) (old.records bs) ≡ bs
written-records bs small h =
    spread-map (λ r. bytes6 (packed r)) (λ xs. old.record_at xs 0) (pieces 6 bs)
    ∙ pieces_kept 6 (omega arith) (λ xs. bytes6 (packed (old.record_at xs 0))) written6 bs h small

pub narrow-widen : (bs : List ℕ) → Bytes bs → length bs % 6 ≡ 0 → narrow false (widen bs) ≡ bs
narrow-widen bs small h =
    sym (spread-map (λ r. bytes6 (packed r)) (rank_of false) (wides (widen bs))) ∙ ap (spread (λ r. bytes6 (packed r))) (rank-widened bs)
    ∙ written-records bs small h

-- ── From edition 2 ──────────────────────────────────────────────────────────────────────────

-- a record that has what going back asks
module _ (w : Wide) (f : FitsWide w) (zeros : w.zero ≡ 0) (may : returns w ≡ true) where
  first-is : (b : Bool) → eqb ((level b * 8 + w.pins) / 8 % 2) 1 ≡ b
  first-is true = let e : (1 * 8 + w.pins) / 8 % 2 ≡ 1 = omega (arith, f.pins-fit) in rw e
  first-is false = let e : (0 * 8 + w.pins) / 8 % 2 ≡ 0 = omega (arith, f.pins-fit) in rw e

  pins-are : (b : Bool) → (level b * 8 + w.pins) % 8 ≡ w.pins
  pins-are true = omega (arith, f.pins-fit)
  pins-are false = omega (arith, f.pins-fit)

  again : widened (rank_of false w) ≡ w
  unfolding rank_of widened
  again = λ i. record {
    step = w.step;
    reset = sym (both w.reset _ may).0 i;
    cke = w.cke;
    first = first-is w.first i;
    second = sym (both w.second _ (both w.reset _ may).1).0 i;
    odt = sym (low w.odt (both w.second _ (both w.reset _ may).1).1) i;
    pins = pins-are w.first i;
    bank = w.bank;
    a = w.a;
    zero = sym zeros i;
  }
    where
      low : (b : Bool) → not b ≡ true → b ≡ false
      low false e = refl
      low true e = sym e

all-again : (ps : List (List ℕ)) → has_spare (map (λ xs. wide_at xs 0) ps) ≡ false → cannot_return (map (λ xs. wide_at xs 0) ps) ≡ false
    → map (λ xs. widened (rank_of false (wide_at xs 0))) ps ≡ map (λ xs. wide_at xs 0) ps
all-again [] zeros may = refl
all-again (xs ∷ ps) zeros may =
    let w = wide_at xs 0 in
    let z = neither (not (eqb w.zero 0)) _ zeros in
    let m = neither (not (returns w)) _ may in
    λ i. again w (wide_fits _) (eqb-true _ _ (not-false _ z.0)) (not-false _ m.0) i ∷ all-again ps z.1 m.1 i

written-wides : (bs : List ℕ) → Bytes bs → length bs % 8 ≡ 0 → spread (λ w. bytes8 (packed_wide w)) (wides bs) ≡ bs
written-wides bs small h =
    spread-map (λ w. bytes8 (packed_wide w)) (λ xs. wide_at xs 0) (pieces 8 bs)
    ∙ pieces_kept 8 (omega arith) (λ xs. bytes8 (packed_wide (wide_at xs 0))) written8 bs h small

pub widen-narrow : (bs : List ℕ) → Bytes bs → length bs % 8 ≡ 0 → has_spare (wides bs) ≡ false → cannot_return (wides bs) ≡ false
    → widen (narrow false bs) ≡ bs
widen-narrow bs small h zeros may =
    ap (spread (λ r. bytes8 (packed_wide (widened r)))) (records-narrow false bs)
    ∙ sym (spread-map (λ w. bytes8 (packed_wide w)) widened (map (rank_of false) (wides bs)))
    ∙ ap (spread (λ w. bytes8 (packed_wide w)))
    (map-map widened (rank_of false) (wides bs) ∙ map-map (λ w. widened (rank_of false w)) (λ xs. wide_at xs 0) (pieces 8 bs) ∙ all-again (pieces 8 bs) zeros may)
    ∙ written-wides bs small h

-- ── Back is allowed just where it gives the same bytes ──────────────────────────────────────

pub widened-free : (rs : List Record) → (has_spare (map widened rs) ≡ false) × (cannot_return (map widened rs) ≡ false)
unfolding widened
widened-free [] = (refl, refl)
widened-free (r ∷ rs) = widened-free rs

pub back-asks : (bs : List ℕ) → widen (narrow false bs) ≡ bs → (has_spare (wides bs) ≡ false) × (cannot_return (wides bs) ≡ false)
back-asks bs same =
    let is : map widened (old.records (narrow false bs)) ≡ wides bs = sym (wides-widen (narrow false bs)) ∙ ap wides same in
    rw is at (widened-free (old.records (narrow false bs)))

pub back-just-there : (bs : List ℕ) → Bytes bs → length bs % 8 ≡ 0
    → (widen (narrow false bs) ≡ bs) ↔ ((has_spare (wides bs) ≡ false) × (cannot_return (wides bs) ≡ false))
back-just-there bs small h = (back-asks bs, λ free. widen-narrow bs small h free.0 free.1)
