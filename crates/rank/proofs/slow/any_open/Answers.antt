-- One bank after the other.
-- Assumes nothing.
use Prim.Native.Nat.{ℕ, suc, ◌+◌}
use native.Mathlib.Omega.{arith}
use mathlib.Core.Bool.{Bool, ◌||◌}
use mathlib.Core.Path.{◌≡◌, refl, ap}
use Rattle.laws.specs.Any.{any_of}
use Rattle.rank.proofs.slow.any_open.Goals as goal

one_more_lem : (f : ℕ → Bool) (i : ℕ) (x : Bool) → x ≡ any_of f i → x || f i ≡ any_of f (i + 1)
unfolding any_of
one_more_lem f i x e = rw e (let s : suc i ≡ i + 1 = omega arith in ap (any_of f) s)

pub loop-b-init : goal.loop-b-init
unfolding any_of
loop-b-init c = refl

pub loop-b-preserved : goal.loop-b-preserved
loop-b-preserved c = one_more_lem _ c.loop-b.b _ c.loop-b.invariant

pub returns : goal.returns
returns c = let l = c.loop-b in rw l.invariant (ap (any_of _) (omega (arith, l.auto.b-end, c.loop-b-test.false)))
