-- The constant tables hold 01's table: the rule is tested once over each whole table.
-- Assumes nothing.
use Prim.Native.Nat.{ℕ, ◌<◌}
use native.Mathlib.Omega.{arith}
use mathlib.Core.Path.{◌≡◌, refl, ◌∙◌, ap}
use mathlib.Core.Bool.{Bool, true, false}
use mathlib.Core.List.{List, [], ◌∷◌}
use lib.ListN.{get_or}
use lib.Dec.{ltb}
use borrow.Author.Tests.{ltb-false, ne_eqb}
use Rattle.laws.proofs.Table.{table-rule, rows-rule}
use Rattle.header.specs.Bins.{Bin, bin_of, time_at, row_of}

-- the two constants of src/bins.rt
unfoldable pub times : List (List ℕ)
times =
    (13125 ∷ 50625 ∷ 37500 ∷ 7500 ∷ 10000 ∷ 37500 ∷ 50000 ∷ 5625 ∷ [])
    ∷ (13125 ∷ 49500 ∷ 36000 ∷ 6000 ∷ 7500 ∷ 30000 ∷ 45000 ∷ 5625 ∷ [])
    ∷ (13125 ∷ 48750 ∷ 35000 ∷ 6000 ∷ 7500 ∷ 30000 ∷ 40000 ∷ 5000 ∷ [])
    ∷ (12840 ∷ 47080 ∷ 34240 ∷ 5000 ∷ 6000 ∷ 27000 ∷ 35000 ∷ 5000 ∷ [])
    ∷ []

unfoldable pub leasts : List ℕ
leasts = 1875 ∷ 1500 ∷ 1250 ∷ 1070 ∷ []

-- a made-up bin has the row of bin 0
same_row : (b : ℕ) → bin_of (row_of b) ≡ bin_of b
unfolding bin_of
same_row b = go (ltb b 4) refl
  where
    go : (x : Bool) → ltb b 4 ≡ x → bin_of (row_of b) ≡ bin_of b
    go true e = rw e
    go false e =
        let far = ltb-false b 4 e in
        rw (e, ne_eqb b 1 (λ z. omega arith), ne_eqb b 2 (λ z. omega arith), ne_eqb b 3 (λ z. omega arith))

module _ (b row : ℕ) (r : row < 4) (is : row ≡ row_of b) where
  bin-is : bin_of row ≡ bin_of b
  bin-is = ap bin_of is ∙ same_row b

  pub time-is : (column : ℕ) → column < 8 → get_or (get_or times row []) column 0 ≡ time_at column (bin_of b)
  unfolding times bin_of
  time-is column c =
      rows-rule 8 (λ (n k : ℕ). time_at k (bin_of n)) times tt row column r c ∙ ap (time_at column) bin-is

  pub least-is : get_or leasts row 0 ≡ (bin_of b).least
  unfolding leasts bin_of
  least-is = table-rule (λ (k : ℕ). (bin_of k).least) leasts tt row r ∙ ap (λ (x : Bin). x.least) bin-is
