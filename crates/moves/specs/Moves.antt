-- A whole recording moved to the other edition, and when a move is refused: 02, Q-7.
-- Assumes nothing.
use Rattle.std.specs.Prelude.{ℕ, ◌+◌, ◌*◌, ◌/◌, ◌%◌, false, cond, List, [], ◌∷◌, ◌++◌, length, take, drop, ◌==◌, nat_lt, slice_index}
use Rattle.header.specs.Bytes.{header_refusal}
use Rattle.records.specs.Record.{records, has_zero}
use Rattle.wide.specs.declared.Seen.{Seen}
use Rattle.wide.specs.Wide.{wides}
use Rattle.wide.specs.Seen.{seen_none, seen_of}
use Rattle.wide.specs.Moved.{widen, narrow}

-- ── The bytes ───────────────────────────────────────────────────────────────────────────────

-- "The new edition is 2: the same header": only the first four bits are another edition's
unfoldable pub headed : (edition : ℕ) → List ℕ → List ℕ
headed e bs = (e * 16 + slice_index bs 0 % 16) ∷ slice_index bs 1 ∷ slice_index bs 2 ∷ slice_index bs 3 ∷ slice_index bs 4 ∷ slice_index bs 5 ∷ []

-- "Old to new"
abbrev pub widened : List ℕ → List ℕ
widened bs = headed 2 bs ++ widen (drop 6 bs)

-- and back
abbrev pub narrowed : List ℕ → List ℕ
narrowed bs = headed 1 bs ++ narrow false (drop 6 bs)

-- ── The refusals ────────────────────────────────────────────────────────────────────────────

-- checks 1, 2, 3, 4 of the header: "a move refuses 2 for an edition it doesn't start from"
abbrev pub opening : (edition : ℕ) → List ℕ → ℕ
opening e bs = header_refusal e (take 6 bs)

-- Then 5 and 7, of so many bytes behind the header where a record has `size`, and what else is refused of the records:
-- | 5 | section length not a multiple of 6 |, or of 8; | 7 | records would pass the limit |, of 1,048,576
abbrev pub counted : (size bytes more : ℕ) → ℕ
counted size n more = cond (n % size == 0) (cond (nat_lt 1048576 (n / size)) 7 more) 5

unfoldable pub refusal_by : (edition size more : ℕ) → List ℕ → ℕ
refusal_by e size more bs = cond (opening e bs == 0) (counted size (length (drop 6 bs)) more) (opening e bs)

-- | 6 | some record's step is 0 |
abbrev pub widen_refusal : List ℕ → ℕ
widen_refusal bs = refusal_by 1 6 (cond (has_zero (records (drop 6 bs))) 6 0) bs

-- "14 stands after 6, 13 after 14": by what was seen in the records
abbrev pub seen_refusal : Seen → ℕ
seen_refusal s = cond s.zero 6 (cond s.spare 14 (cond s.stays 13 0))

abbrev pub narrow_refusal : List ℕ → ℕ
narrow_refusal bs = refusal_by 2 8 (seen_refusal (seen_of seen_none (wides (drop 6 bs)))) bs

-- "A move checks 9 last and writes nothing when refused.": of a lent buffer with so much room
unfoldable pub code_of : (refusal : ℕ) (moved : List ℕ) (room : ℕ) → ℕ
code_of n moved room = cond (n == 0) (cond (nat_lt room (length moved)) 9 0) n
