-- The soonest due edge, and its bank's ACT.
-- Assumes nothing.
use Prim.Native.Nat.{◌<◌}
use native.Mathlib.Omega.{arith}
use Rattle.running.proofs.Soonest.{soonest-bank}
use Rattle.edges.specs.Says.{dues_of, next24}
use Rattle.running.specs.Next.{due}
use Rattle.edges.specs.Views.{kept_of}
use Rattle.rank.proofs.Filling.{eights}
use Rattle.rank.proofs.deadlines.next24.Goals as goal

pub offset_bounds-actno-b : goal.offset_bounds-actno-b
offset_bounds-actno-b c = let h : c.soonest-pick.result.bank < 8 = rw c.soonest-pick.ensures (soonest-bank _ _ _) in omega arith

pub bounds-actno-b : goal.bounds-actno-b
bounds-actno-b c = rw c.soonest-pick.ensures (soonest-bank _ _ _)

pub returns : goal.returns
unfolding next24 dues_of
returns c = simp (c.late_by.ensures, c.soonest-pick.ensures, c.dues_of.ensures, eights (λ b. due c.args.chip (kept_of c.args.chip c.args.banks b)))
