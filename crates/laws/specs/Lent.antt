-- A call that writes into lent bytes: 01, "A refusal returns its number alone", "Later bytes of the buffer keep their values",
-- "success returns 0". One form for every such call.
-- Assumes nothing.
use Rattle.std.specs.Prelude.{ℕ, cond, List, ◌++◌, ◌≡◌, length, drop, eqb}

-- the lent bytes after the call: the words and then what stood behind them, or all as before where the call is refused
unfoldable pub written : (refusal : ℕ) → (words before : List ℕ) → List ℕ
written n words before = cond (eqb n 0) (words ++ drop (length words) before) before

-- what the call answers, and what it leaves
pub record Wrote (refusal : ℕ) (words before : List ℕ) (r : ℕ) (after : List ℕ) : Type 0 where
  pub result : r ≡ refusal
  pub out : after ≡ written refusal words before
