-- What no verdict shows since Q-2, though the rules stand: before it an earlier edge is broken, by 31 or 25.
-- Assumes nothing.
use Rattle.std.specs.Prelude.{ℕ, ◌≤◌, ◌≡◌, true}
use Rattle.header.specs.declared.Header.{Header}

-- of a part with the header h, whose verdict is broken and names a rule and a partner
pub record Unseen (h : Header) (rule partner : ℕ) : Type 0 where
  -- a power-down of nine intervals: its last REF is farther back
  pub no-28 : rule ≡ 28 → ⊥
  -- a bank open for nine intervals, so that no REF came
  pub no-hot-24 : h.hot ≡ true → rule ≡ 24 → ⊥
  -- nine intervals with no REF at all: 9 are owed
  pub partner-of-31 : rule ≡ 31 → 1 ≤ partner
