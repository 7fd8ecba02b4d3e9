-- A small code has its high bits at 0.
-- Assumes nothing.
use Prim.Native.Nat.{ℕ, ◌<◌}
use native.Mathlib.Nat.{div-eq_of_lt}
use native.Mathlib.Omega.{arith}
use mathlib.Core.Path.{◌≡◌, refl}
use Rattle.registers.specs.Allowed.{from11, from13, table3, first_of}
use Rattle.std.specs.Prelude.{None}

pub low13 : (c : ℕ) → c < 8192 → None ≡ first_of (from13 c)
unfolding first_of
low13 c l = rw (div-eq_of_lt {n = c} {m = 8192} l, div-eq_of_lt {n = c} {m = 16384} (omega arith), div-eq_of_lt {n = c} {m = 32768} (omega arith)) refl

pub low11 : (c : ℕ) → c < 2048 → None ≡ first_of (from11 c)
unfolding first_of
low11 c l = rw (div-eq_of_lt {n = c} {m = 2048} l, div-eq_of_lt {n = c} {m = 4096} (omega arith)) (low13 c (omega arith))

pub all-zero : (c : ℕ) → c ≡ 0 → None ≡ first_of (table3 c)
unfolding first_of table3
all-zero c z = rw z refl
