-- One place after the other.
-- Assumes nothing.
use Prim.Native.Nat.{ℕ, suc, ◌+◌, max}
use native.Mathlib.Omega.{arith}
use mathlib.Core.List.{List}
use mathlib.Core.Path.{◌≡◌, refl, ap, ◌∙◌}
use lib.ListN.{get_or}
use Rattle.edges.specs.Asks.{greatest}
use Rattle.rank.proofs.said.greatest.Goals as goal

one_more_lem : (xs : List ℕ) (i most : ℕ) → most ≡ greatest xs i → max most (get_or xs i 0) ≡ greatest xs (i + 1)
unfolding greatest
one_more_lem xs i most e = rw e (let s : suc i ≡ i + 1 = omega arith in ap (greatest xs) s)

pub loop-x-init : goal.loop-x-init
unfolding greatest
loop-x-init c = refl

pub loop-x-preserved : goal.loop-x-preserved
loop-x-preserved c = let l = c.loop-x in c.max-most.ensures ∙ one_more_lem _ l.x-index _ l.invariant

pub returns : goal.returns
returns c = let l = c.loop-x in l.invariant ∙ ap (greatest _) (omega arith)
