-- The two layouts of a section's bytes, by the edition: how long a record is, and what each rank sees. 02, Q-7: "one verdict per rank, each rank
-- seeing its own CS"; "Demand 3 and refusal 5 read 8-byte records there".
-- Assumes nothing.
use Rattle.std.specs.Prelude.{ℕ, ◌+◌, ◌/◌, ◌%◌, Bool, false, cond, List, [], eqb, ltb, length}
use Rattle.records.specs.Record.{records, has_zero}
use Rattle.wide.specs.Wide.{wides, has_spare}
use Rattle.wide.specs.Moved.{narrow}

-- a record's bytes
unfoldable pub size : (edition : ℕ) → ℕ
size e = cond (eqb e 2) 8 6

-- What a rank sees, as the bytes of edition 1: there the first rank sees the bytes as they are, and the second, which is not there, none.
unfoldable pub view : (edition : ℕ) (second : Bool) → List ℕ → List ℕ
view e second bs = cond (eqb e 2) (narrow second bs) (cond second [] bs)

-- | 14 | zero bits set |: edition 1 has none
unfoldable pub spare_in : (edition : ℕ) → List ℕ → Bool
spare_in e bs = cond (eqb e 2) (has_spare (wides bs)) false

-- the refusal of a section, after so many records; 0: it is taken
-- "5, 7, 6, 14": | 5 | section length not a multiple of 6 |, or of 8, | 7 | records would pass the limit |, of 1,048,576, | 6 | some record's step
-- is 0 |
unfoldable pub refusal : (edition count : ℕ) → (bytes : List ℕ) → ℕ
refusal e n bs =
    cond (eqb (length bs % size e) 0)
    (cond (ltb 1048576 (n + length bs / size e)) 7
    (cond (has_zero (records (view e false bs))) 6
    (cond (spare_in e bs) 14 0)))
    5
