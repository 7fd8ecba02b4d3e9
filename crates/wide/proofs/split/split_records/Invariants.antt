-- A row of records a turn, for both ranks.
-- Assumes nothing.
use Prim.Native.Nat.{◌-◌, ◌≤◌}
use mathlib.Core.Bool.{true, false}
use mathlib.Core.Path.{◌≡◌}
use lib.ListN.{length}
use Rattle.wide.proofs.Loops.{Narrowing}
use Rattle.wide.proofs.split.split_records.Given as goal

abbrev pub invariant-loop-i : goal.invariant-loop-i
invariant-loop-i l = (l.i ≤ l.count) × (length l.first ≡ 125) × (length l.second ≡ 125) × Narrowing l.bytes false l.initial.one l.one l.spare l.i × Narrowing l.bytes true l.initial.two l.two l.spare l.i

abbrev pub decreases-loop-i : goal.decreases-loop-i
decreases-loop-i l = l.count - l.i
