-- What is left of the section leads where it leads, for both ranks; a part of 8,000 bytes a turn.
-- Assumes nothing.
use Prim.Native.Nat.{◌-◌}
use mathlib.Core.Bool.{true, false}
use mathlib.Core.Path.{◌≡◌}
use lib.ListN.{length}
use Rattle.judge.proofs.Pairs.{Stage}
use Rattle.judge.proofs.ranks.in_parts.Given as goal

abbrev pub invariant-loop-at : goal.invariant-loop-at
invariant-loop-at l = (length l.first ≡ 6000) × (length l.second ≡ 6000) × Stage l.chip false l.initial.one l.bytes l.one l.spare l.at × Stage l.chip true l.initial.two l.bytes l.two l.spare l.at

abbrev pub decreases-loop-at : goal.decreases-loop-at
decreases-loop-at l = length l.bytes - l.at
