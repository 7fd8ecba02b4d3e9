-- Rounding, of 01's "Clock counts": "A least time T becomes T / period rounded up; a greatest time rounds down."
-- Assumes nothing.
use Rattle.std.specs.Prelude.{ℕ, ◌+◌, ◌*◌, ◌/◌, ◌%◌, ◌≤◌, cond, eqb}
use Rattle.units.specs.declared.Ps.{Ps}
use Rattle.units.specs.declared.Clocks.{Clocks}

-- T / period rounded up; 0 at a period of 0
unfoldable pub up : (time period : ℕ) → ℕ
up t p = cond (eqb p 0) 0 (cond (eqb (t % p) 0) (t / p) (t / p + 1))

-- T / period rounded down; 0 at a period of 0
unfoldable pub down : (time period : ℕ) → ℕ
down t p = cond (eqb p 0) 0 (t / p)

-- the same with the units said
abbrev pub up_of : Ps → Ps → Clocks
up_of t p = record { clocks = up t.ps p.ps }

abbrev pub down_of : Ps → Ps → Clocks
down_of t p = record { clocks = down t.ps p.ps }

-- n clocks are the least whole number that is not shorter than the time
pub record LeastNotShorter (time period n : ℕ) : Type 0 where
  pub not-shorter : time ≤ n * period
  pub least : (k : ℕ) → time ≤ k * period → n ≤ k

-- n clocks are the greatest whole number that is not longer than the time
pub record GreatestNotLonger (time period n : ℕ) : Type 0 where
  pub not-longer : n * period ≤ time
  pub greatest : (k : ℕ) → k * period ≤ time → k ≤ n
