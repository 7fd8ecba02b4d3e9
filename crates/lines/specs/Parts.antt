-- What the helpers' contracts cite: a text put into lent bytes at a place.
-- Assumes nothing.
use Rattle.std.specs.Prelude.{ℕ, ◌+◌, List, ◌++◌, ◌≡◌, length, take, drop}

-- the call answers where the text ends, and leaves what stood before the place, the text, and what stood behind it
pub record Put (text : List ℕ) (at : ℕ) (before : List ℕ) (r : ℕ) (after : List ℕ) : Type 0 where
  pub place : r ≡ at + length text
  pub out : after ≡ take at before ++ text ++ drop (at + length text) before
