-- Eight of a kind, one a bank.
-- Assumes nothing.
use Rattle.std.specs.Prelude.{ℕ, List, [], ◌∷◌}

-- f at 0 to 7
unfoldable pub table : {A : Type 0} → (ℕ → A) → List A
table f = f 0 ∷ f 1 ∷ f 2 ∷ f 3 ∷ f 4 ∷ f 5 ∷ f 6 ∷ f 7 ∷ []
