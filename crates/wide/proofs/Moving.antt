-- What is moved: its records are those of the other edition, it has so many bytes, and two parts are moved one after the other.
-- Assumes nothing.
use Prim.Native.Nat.{ℕ, ◌*◌, ◌/◌, ◌%◌}
use native.Mathlib.Omega.{arith}
use mathlib.Core.Bool.{Bool, cond}
use mathlib.Core.List.{List, ◌++◌, map, map-map}
use mathlib.Core.Path.{◌≡◌, refl, sym, ap, ◌∙◌}
use lib.ListN.{length}
use Rattle.records.specs.declared.Record.{Record}
use Rattle.records.specs.Pieces.{pieces}
use Rattle.records.specs.Record as old
use Rattle.records.proofs.Records.{records-append, length-records}
use Rattle.wide.specs.declared.Wide.{Wide}
use Rattle.wide.specs.Spread.{spread}
use Rattle.wide.specs.Wide.{wide_at, wides, rank_of}
use Rattle.wide.specs.Moved.{packed, bytes6, packed_wide, bytes8, widened, widen, narrow}
use Rattle.wide.proofs.Spreading.{spread-append, length-spread, pieces-spread, map-ext}
use Rattle.wide.proofs.Words.{Fits, level-small, packed-small, fields-packed, narrow-fits, read6}
use Rattle.wide.proofs.WideWords.{FitsWide, wide_fits, packed-small-wide, fields-packed-wide, read8}
use Rattle.wide.proofs.Wides.{wides-append, length-wides}

-- ── Edition 2 to 1 ──────────────────────────────────────────────────────────────────────────

pub six : (n : ℕ) → length (bytes6 n) ≡ 6
unfolding bytes6
six n = refl

module _ (second : Bool) where
  pub rank-fits : (w : Wide) → FitsWide w → Fits (rank_of second w)
  unfolding rank_of
  rank-fits w f = record {
    step_fits = f.step_fits;
    pins-fit = omega (arith, level-small (cond second w.second w.first), f.pins-fit);
    bank-fits = f.bank-fits;
    a-fits = f.a-fits;
  }

  -- one record
  abbrev narrow_one : Wide → List ℕ
  narrow_one w = bytes6 (packed (rank_of second w))

  narrow-read : (w : Wide) → FitsWide w → old.record_at (narrow_one w) 0 ≡ rank_of second w
  narrow-read w f = let fits = rank-fits w f in read6 (packed (rank_of second w)) (packed-small _ fits) ∙ fields-packed _ fits

  pub records-narrow : (bs : List ℕ) → old.records (narrow second bs) ≡ map (rank_of second) (wides bs)
  records-narrow bs =
      ap (map (λ xs. old.record_at xs 0)) (pieces-spread narrow_one 6 (λ w. six _) (omega arith) (wides bs))
      ∙ map-map (λ xs. old.record_at xs 0) narrow_one (wides bs) ∙ map-map (λ w. old.record_at (narrow_one w) 0) (λ xs. wide_at xs 0) (pieces 8 bs)
      ∙ map-ext (λ xs. old.record_at (narrow_one (wide_at xs 0)) 0) (λ xs. rank_of second (wide_at xs 0)) (λ xs. narrow-read (wide_at xs 0) (wide_fits _)) (pieces 8 bs)
      ∙ sym (map-map (rank_of second) (λ xs. wide_at xs 0) (pieces 8 bs))

  pub narrow-append : (xs ys : List ℕ) → length xs % 8 ≡ 0 → narrow second (xs ++ ys) ≡ narrow second xs ++ narrow second ys
  narrow-append xs ys h = ap (spread narrow_one) (wides-append xs ys h) ∙ spread-append narrow_one (wides xs) (wides ys)

  pub length-narrow : (bs : List ℕ) → length (narrow second bs) ≡ 6 * (length bs / 8)
  length-narrow bs = length-spread narrow_one 6 (λ w. six _) (wides bs) ∙ ap (λ (n : ℕ). 6 * n) (length-wides bs)

-- ── Edition 1 to 2 ──────────────────────────────────────────────────────────────────────────

pub eight : (n : ℕ) → length (bytes8 n) ≡ 8
unfolding bytes8
eight n = refl

pub widened-fits : (r : Record) → Fits r → FitsWide (widened r)
unfolding widened
widened-fits r f = record { step_fits = f.step_fits; pins-fit = omega arith; bank-fits = f.bank-fits; a-fits = f.a-fits; zero-fits = omega arith }

abbrev pub widen_one : Record → List ℕ
widen_one r = bytes8 (packed_wide (widened r))

widen-read : (r : Record) → Fits r → wide_at (widen_one r) 0 ≡ widened r
widen-read r f = let fits = widened-fits r f in read8 (packed_wide (widened r)) (packed-small-wide _ fits) ∙ fields-packed-wide _ fits

pub wides-widen : (bs : List ℕ) → wides (widen bs) ≡ map widened (old.records bs)
wides-widen bs =
    ap (map (λ xs. wide_at xs 0)) (pieces-spread widen_one 8 (λ r. eight _) (omega arith) (old.records bs))
    ∙ map-map (λ xs. wide_at xs 0) widen_one (old.records bs) ∙ map-map (λ r. wide_at (widen_one r) 0) (λ xs. old.record_at xs 0) (pieces 6 bs)
    ∙ map-ext (λ xs. wide_at (widen_one (old.record_at xs 0)) 0) (λ xs. widened (old.record_at xs 0)) (λ xs. widen-read (old.record_at xs 0) (narrow-fits _)) (pieces 6 bs)
    ∙ sym (map-map widened (λ xs. old.record_at xs 0) (pieces 6 bs))

pub widen-append : (xs ys : List ℕ) → length xs % 6 ≡ 0 → widen (xs ++ ys) ≡ widen xs ++ widen ys
widen-append xs ys h = ap (spread widen_one) (records-append xs ys h) ∙ spread-append widen_one (old.records xs) (old.records ys)

pub length-widen : (bs : List ℕ) → length (widen bs) ≡ 8 * (length bs / 6)
length-widen bs = length-spread widen_one 8 (λ r. eight _) (old.records bs) ∙ ap (λ (n : ℕ). 8 * n) (length-records bs)
