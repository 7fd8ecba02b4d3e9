-- Bytes of each element of a list, one after the other; bytes of eight bits.
-- Assumes nothing.
use Rattle.std.specs.Prelude.{ℕ, ◌<◌, List, [], ◌∷◌, ◌++◌, get_or}

abbrev pub spread : {A : Type 0} → (A → List ℕ) → List A → List ℕ
spread f [] = []
spread f (x ∷ xs) = f x ++ spread f xs

-- what a slice of bytes holds: no number has more than eight bits
abbrev pub Bytes : List ℕ → Type 0
Bytes bs = (i : ℕ) → get_or bs i 0 < 256
