-- The place of the greatest number.
-- Assumes nothing.
use Prim.Native.Nat.{ℕ, zero, suc, ◌+◌, ◌≤◌}
use native.Mathlib.Omega.{arith}
use native.Mathlib.Decide.{ℕ_discrete}
use mathlib.Core.Path.{◌≡◌, refl, sym, subst}
use mathlib.Core.Bool.{Bool, true, false, cond}
use mathlib.Core.List.{List}
use lib.Dec.{ltb}
use lib.ListN.{get_or}
use borrow.Author.Tests.{ltb-true, ltb-false}
use Rattle.edges.specs.Views.{latest_from}

-- the place that is found is one of those looked at, and no number there is greater
pub record Most (num : List ℕ) (from n i : ℕ) : Type 0 where
  pub after : from ≤ i
  pub within : i ≤ from + n
  pub most : (j : ℕ) → j ≤ n → get_or num (from + j) 0 ≤ get_or num i 0

pub latest-from : (num : List ℕ) (from n : ℕ) → Most num from n (latest_from num from n)
unfolding latest_from
latest-from num from zero =
    record { after = omega arith; within = omega arith; most = λ j l. let e : from + j ≡ from = omega arith in rw e (omega arith) }
latest-from num from (suc n) = go (latest_from num from n) (latest-from num from n)
  where
    top : (P : ℕ → Type 0) (m : ℕ) → ((j : ℕ) → j ≤ m → P j) → P (suc m) → (j : ℕ) → j ≤ suc m → P j
    top P m f z j l = elim (ℕ_discrete j (suc m)) [ yes q ↦ subst P (sym q) z | no q ↦ f j (omega arith) ]

    go : (i : ℕ) → Most num from n i → Most num from (suc n) (cond (ltb (get_or num i 0) (get_or num (from + suc n) 0)) (from + suc n) i)
    go i w = by (ltb (get_or num i 0) (get_or num (from + suc n) 0)) refl
      where
        by : (x : Bool) → ltb (get_or num i 0) (get_or num (from + suc n) 0) ≡ x → Most num from (suc n) (cond x (from + suc n) i)
        by true y =
            record {
              after = omega arith;
              within = omega arith;
              most = top (λ j. get_or num (from + j) 0 ≤ get_or num (from + suc n) 0) n
                  (λ j l. omega (arith, w.most j l, ltb-true (get_or num i 0) (get_or num (from + suc n) 0) y)) (omega arith);
            }
        by false z =
            record {
              after = w.after;
              within = omega (arith, w.within);
              most = top (λ j. get_or num (from + j) 0 ≤ get_or num i 0) n w.most (ltb-false (get_or num i 0) (get_or num (from + suc n) 0) z);
            }
