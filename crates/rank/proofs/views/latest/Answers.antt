-- One place after the other.
-- Assumes nothing.
use Prim.Native.Nat.{ℕ, suc, ◌+◌}
use native.Mathlib.Omega.{arith}
use mathlib.Core.Bool.{cond}
use mathlib.Core.List.{List}
use mathlib.Core.Path.{◌≡◌, refl, ap, ◌∙◌}
use lib.Dec.{ltb}
use lib.ListN.{get_or}
use Rattle.edges.specs.Views.{latest_from}
use borrow.Author.Rules.{rules}
use Rattle.rank.proofs.views.latest.Goals as goal

one_more_lem :
    (xs : List ℕ) (from i best x : ℕ) → best ≡ latest_from xs from i
    → x ≡ cond (ltb (get_or xs best 0) (get_or xs (from + (i + 1)) 0)) (from + (i + 1)) best → x ≡ latest_from xs from (i + 1)
unfolding latest_from
one_more_lem xs from i best x e is = is ∙ rw e (let s : suc i ≡ i + 1 = omega arith in rw (← s) refl)

pub loop-i-init : goal.loop-i-init
unfolding latest_from
loop-i-init c = (search rules, refl)

pub loop-i-preserved : goal.loop-i-preserved
loop-i-preserved c = let l = c.loop-i in (c.later-best.ensures.upper_bound, one_more_lem _ _ l.i _ _ l.invariant.1 c.later-best.ensures.value)

pub returns : goal.returns
returns c = let l = c.loop-i in record { value = l.invariant.1 ∙ ap (latest_from _ _) (omega arith); upper_bound = l.invariant.0 }
