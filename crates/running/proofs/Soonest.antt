-- Which bank comes due first.
-- Assumes nothing.
use Prim.Native.Nat.{ℕ, zero, suc, ◌≤◌, ◌<◌}
use native.Mathlib.Omega.{arith}
use mathlib.Core.Bool.{Bool, true, false, cond, ◌&&◌}
use mathlib.Core.List.{List}
use mathlib.Core.Logic.{◌⊎◌, ⊎_elim}
use mathlib.Core.Path.{◌≡◌, refl}
use lib.Dec.{ltb}
use lib.ListN.{get_or}
use borrow.Author.Tests.{le-ltb}
use Rattle.running.specs.declared.Pick.{Pick}
use Rattle.running.specs.Late.{better, soonest}

-- none is due: none is found
pub soonest-none : (ds : List ℕ) (lo hi n : ℕ) → ((b : ℕ) → b < n → (get_or ds b 0 ≤ lo) ⊎ (hi ≤ get_or ds b 0)) → ◌≡◌ {A = Pick} (soonest ds lo hi n) (record { at = hi; bank = 0 })
unfolding soonest better
soonest-none ds lo hi zero h = refl
soonest-none ds lo hi (suc n) h =
    rw (soonest-none ds lo hi n (λ b l. h b (omega arith)))
    (⊎_elim (λ (l : get_or ds n 0 ≤ lo). rw (le-ltb lo (get_or ds n 0) l)) (λ (l : hi ≤ get_or ds n 0). past (ltb lo (get_or ds n 0)) l) (h n (omega arith)))
  where
    past : (y : Bool) → hi ≤ get_or ds n 0
        → ◌≡◌ {A = Pick} (cond (y && ltb (get_or ds n 0) hi) (record { at = get_or ds n 0; bank = n }) (record { at = hi; bank = 0 })) (record { at = hi; bank = 0 })
    past true l = rw (le-ltb (get_or ds n 0) hi l)
    past false l = refl

-- the bank that is picked is one of the eight
better-bank : (lo d b m : ℕ) (k : Pick) → b ≤ m → k.bank ≤ m → (better lo d b k).bank ≤ m
unfolding better
better-bank lo d b m k l h = go (ltb lo d && ltb d k.at)
  where
    go : (x : Bool) → (cond x (record { at = d; bank = b }) k).bank ≤ m
    go true = l
    go false = h

picked-bank : (ds : List ℕ) (lo hi n : ℕ) → (soonest ds lo hi (suc n)).bank ≤ n
unfolding soonest
picked-bank ds lo hi zero = better-bank lo (get_or ds 0 0) 0 0 (record { at = hi; bank = 0 }) (omega arith) (omega arith)
picked-bank ds lo hi (suc n) =
    better-bank lo (get_or ds (suc n) 0) (suc n) (suc n) (soonest ds lo hi (suc n)) (omega arith) (omega (arith, picked-bank ds lo hi n))

pub soonest-bank : (ds : List ℕ) (lo hi : ℕ) → (soonest ds lo hi 8).bank < 8
soonest-bank ds lo hi = omega (arith, picked-bank ds lo hi 7)
