-- Bytes cut into pieces of one size: a record's six bytes, or its eight in edition 2.
-- Assumes nothing.
use Rattle.std.specs.Prelude.{ℕ, zero, suc, ◌/◌, List, [], ◌∷◌, length, take, drop}

-- so many pieces of so many bytes
abbrev pub pieces_in : (count size : ℕ) → List ℕ → List (List ℕ)
pieces_in zero w bs = []
pieces_in (suc n) w bs = take w bs ∷ pieces_in n w (drop w bs)

-- all that are whole: bytes left over make none
abbrev pub pieces : (size : ℕ) → List ℕ → List (List ℕ)
pieces w bs = pieces_in (length bs / w) w bs
