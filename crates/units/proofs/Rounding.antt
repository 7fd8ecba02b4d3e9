-- Rounding, once for every time and every period: up is the least whole number of clocks that is not shorter than the time, down
-- the greatest that is not longer, both 0 at a period of 0. And the order and the bounds that other layers use.
-- Assumes nothing.
use Prim.Native.Nat.{ℕ, suc, ◌+◌, ◌*◌, ◌/◌, ◌%◌, ◌≤◌, ◌<◌}
use native.Mathlib.Nat.{div-add-mod', mod-lt, le-div_iff_mul-le, div-lt_iff_lt-mul, div-mul-le_self, div-le_self, suc-mul, add-mul, lt_of_mul-lt-mul_right, le-mul_of_pos_right}
use native.Mathlib.Omega.{arith}
use mathlib.Core.Path.{◌≡◌, refl}
use mathlib.Core.Bool.{Bool, true, false, cond}
use lib.Dec.{eqb}
use borrow.Author.Tests.{eqb-true, eqb-false, ne_eqb}
use Rattle.laws.proofs.Unique.{Unique, one_answer}
use Rattle.units.specs.declared.Ps.{Ps}
use Rattle.units.specs.Round.{up, down, up_of, down_of, LeastNotShorter, GreatestNotLonger}
use Rattle.units.specs.Promises.{Up, Down}

pub up-zero : (t : ℕ) → up t 0 ≡ 0
unfolding up
up-zero t = refl

pub down-zero : (t : ℕ) → down t 0 ≡ 0
unfolding down
down-zero t = refl

module _ (t p : ℕ) (pos : 0 < p) where
  pub up_least : LeastNotShorter t p (up t p)
  unfolding up
  up_least = rw (ne_eqb p 0 (λ z. omega arith)) (go (eqb (t % p) 0) refl)
    where
      go : (x : Bool) → eqb (t % p) 0 ≡ x → LeastNotShorter t p (cond x (t / p) (t / p + 1))
      go true e =
          record {
            not-shorter = omega (arith, div-add-mod' t p, eqb-true (t % p) 0 e);
            least = λ k h.
                let w = (div-lt_iff_lt-mul {x = t} {y = suc k} pos).1 (omega (arith, suc-mul k p)) in
                omega arith;
          }
      go false e =
          let some : 0 < t % p = omega (arith, eqb-false (t % p) 0 e) in
          record {
            not-shorter = omega (arith, div-add-mod' t p, mod-lt t pos, add-mul (t / p) 1 p);
            least = λ k h. let w = lt_of_mul-lt-mul_right p {m = t / p} {n = k} (omega (arith, div-add-mod' t p)) in omega arith;
          }

  pub down-greatest : GreatestNotLonger t p (down t p)
  unfolding down
  down-greatest =
      rw (ne_eqb p 0 (λ z. omega arith))
      (record { not-longer = div-mul-le_self t p; greatest = λ k h. (le-div_iff_mul-le pos).1 h })

-- a longer time takes no fewer clocks
pub up-mono : (s t p : ℕ) → 0 < p → s ≤ t → up s p ≤ up t p
up-mono s t p pos h = (up_least s p pos).least (up t p) (omega (arith, (up_least t p pos).not-shorter))

-- k clocks that are not longer than the time are no more than it takes
pub up_more : (t p k : ℕ) → 0 < p → k * p ≤ t → k ≤ up t p
unfolding up
up_more t p k pos h =
    let w = (le-div_iff_mul-le {x = k} pos).1 h in
    rw (ne_eqb p 0 (λ z. omega arith)) (go (eqb (t % p) 0) w)
  where
    go : (x : Bool) → k ≤ t / p → k ≤ cond x (t / p) (t / p + 1)
    go true l = l
    go false l = omega arith

-- a number of clocks is at most the number of picoseconds, at every period
pub up-most : (t p : ℕ) → up t p ≤ t
up-most t p = go (eqb p 0) refl
  where
    go : (x : Bool) → eqb p 0 ≡ x → up t p ≤ t
    go true e = rw (eqb-true p 0 e, up-zero) (omega arith)
    go false e =
        let pos : 0 < p = omega (arith, eqb-false p 0 e) in
        (up_least t p pos).least t (le-mul_of_pos_right t pos)

pub down-most : (t p : ℕ) → down t p ≤ t
unfolding down
down-most t p = go (eqb p 0)
  where
    go : (x : Bool) → cond x 0 (t / p) ≤ t
    go true = omega arith
    go false = div-le_self t p

-- one answer for each contract
pub up-unique : (t p : Ps) → Unique (Up t p)
up-unique t p = one_answer (up_of t p)

pub down-unique : (t p : Ps) → Unique (Down t p)
down-unique t p = one_answer (down_of t p)
