-- `txs`: its time, rounded.
-- Assumes nothing.
use native.Mathlib.Omega.{arith}
use Prim.Native.Nat.{ℕ, ◌≤◌}
use mathlib.Core.Path.{◌≡◌}
use mathlib.Core.Bool.{Bool, true, false, cond}
use Rattle.header.proofs.Header.txs.Goals as goal

small : (b : Bool) (t : ℕ) → t ≡ cond b 160000 110000 → t ≤ 160000
small true t e = omega arith
small false t e = omega arith

pub overflow_add-time : goal.overflow_add-time
overflow_add-time c = omega (arith, small c.args.self.dense c.choice-time.result c.choice-time.ensures)

pub returns : goal.returns
returns c = simp (c.least_or.ensures, c.choice-time.ensures)
