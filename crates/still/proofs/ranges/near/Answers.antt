-- Where there is a difference.
-- Assumes nothing.
use Prim.Native.Nat.{◌-◌}
use native.Mathlib.Omega.{arith}
use mathlib.Core.Path.{sym}
use borrow.Author.Tests.{le-leb}
use Rattle.edges.specs.Ranges.{farthest}
use Rattle.still.proofs.ranges.near.Goals as goal

pub returns-then-due-edge : goal.returns-then-due-edge
returns-then-due-edge c = sym (le-leb (c.args.due - c.args.edge) farthest (omega (arith, c.if-due-edge.true)))
