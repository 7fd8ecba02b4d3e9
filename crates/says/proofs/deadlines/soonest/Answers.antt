-- A bank more.
-- Assumes nothing.
use Rattle.std.proofs.Common.{◌≡◌, ℕ, ◌+◌, List, get_or, refl, ◌∙◌, add-one}
use Rattle.running.specs.declared.Pick.{Pick}
use Rattle.running.specs.Late.{better, soonest}
use Rattle.says.proofs.deadlines.soonest.Goals as goal

one_more : (ds : List ℕ) (lo hi i : ℕ) (p q : Pick) → p ≡ soonest ds lo hi i → q ≡ better lo (get_or ds i 0) i p → q ≡ soonest ds lo hi (i + 1)
unfolding soonest
one_more ds lo hi i p q was is = is ∙ rw (add-one i, was)

pub loop-b-init : goal.loop-b-init
unfolding soonest
loop-b-init c = refl

pub loop-b-preserved : goal.loop-b-preserved
loop-b-preserved c = one_more c.args.dues c.args.lo c.args.hi c.loop-b.b _ _ c.loop-b.invariant c.better-pick.ensures
