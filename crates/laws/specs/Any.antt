-- One of several things holds.
-- Assumes nothing.
use Rattle.std.specs.Prelude.{ℕ, zero, suc, Bool, false, ◌||◌}

-- f holds of a number below n
unfoldable pub any_of : (f : ℕ → Bool) → (n : ℕ) → Bool
any_of f zero = false
any_of f (suc n) = any_of f n || f n
