-- What is left of the section leads where it leads; a part of 8,000 bytes a turn.
-- Assumes nothing.
use Prim.Native.Nat.{◌-◌}
use mathlib.Core.Path.{◌≡◌}
use lib.ListN.{length}
use Rattle.judge.proofs.Pairs.{Stage}
use Rattle.judge.proofs.ranks.alone.Given as goal

abbrev pub invariant-loop-at : goal.invariant-loop-at
invariant-loop-at l = (length l.view ≡ 6000) × Stage l.chip l.second l.initial.m l.bytes l.m l.spare l.at

abbrev pub decreases-loop-at : goal.decreases-loop-at
decreases-loop-at l = length l.bytes - l.at
