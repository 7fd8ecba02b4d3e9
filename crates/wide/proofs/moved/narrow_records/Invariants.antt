-- A row of records a turn.
-- Assumes nothing.
use Prim.Native.Nat.{◌-◌, ◌≤◌}
use mathlib.Core.Path.{◌≡◌}
use lib.ListN.{length}
use Rattle.wide.proofs.Loops.{Narrowing}
use Rattle.wide.proofs.moved.narrow_records.Given as goal

abbrev pub invariant-loop-i : goal.invariant-loop-i
invariant-loop-i l = (l.i ≤ l.count) × (length l.one ≡ 125) × (length l.two ≡ 125) × Narrowing l.bytes l.second l.initial.out l.out l.spare l.i

abbrev pub decreases-loop-i : goal.decreases-loop-i
decreases-loop-i l = l.count - l.i
