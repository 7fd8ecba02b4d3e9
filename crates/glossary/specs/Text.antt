-- A text as the bytes that a report prints of it.
-- Assumes nothing.
use Rattle.std.specs.Prelude.{ℕ, take, replicate}
use Prim.Native.Char.{code}
use Prim.Native.String.{String, [], ◌∷◌}
use mathlib.Core.List as list

abbrev pub bytes : String → list.List ℕ
bytes [] = list.[]
bytes (c ∷ s) = list.◌∷◌ (code c) (bytes s)

-- n bytes of it, filled up with spaces
abbrev pub filled : (n : ℕ) → String → list.List ℕ
filled n s = take n (list.◌++◌ (bytes s) (replicate n 32))
