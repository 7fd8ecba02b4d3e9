-- One bank after the other.
-- Assumes nothing.
use Prim.Native.Nat.{ℕ, suc, ◌+◌}
use native.Mathlib.Omega.{arith}
use mathlib.Core.Bool.{cond}
use mathlib.Core.List.{List}
use mathlib.Core.Path.{◌≡◌, refl, ap, ◌∙◌}
use Rattle.edges.specs.Views.{last_start, starts_after}
use borrow.Author.Rules.{rules}
use Rattle.rank.proofs.views.last_start.Goals as goal

one_more_lem :
    (at nums : List ℕ) (i best x : ℕ) → best ≡ last_start at nums i
    → x ≡ cond (starts_after at nums best (i + 1)) (i + 1) best → x ≡ last_start at nums (i + 1)
unfolding last_start
one_more_lem at nums i best x e is = is ∙ rw e (let s : suc i ≡ i + 1 = omega arith in rw (← s) refl)

pub loop-i-init : goal.loop-i-init
unfolding last_start
loop-i-init c = (search rules, refl)

pub loop-i-preserved : goal.loop-i-preserved
loop-i-preserved c = let l = c.loop-i in (c.later_start-best.ensures.upper_bound, one_more_lem _ _ l.i _ _ l.invariant.1 c.later_start-best.ensures.value)

pub returns : goal.returns
returns c = let l = c.loop-i in record { value = l.invariant.1 ∙ ap (last_start _ _) (omega arith); upper_bound = l.invariant.0 }
