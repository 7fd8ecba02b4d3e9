-- The checks of a move but for 9, of a recording that comes in sections: its header, then sections that end between records, the last perhaps
-- elsewhere. 02, Q-7.
-- Assumes nothing.
use Rattle.std.specs.Prelude.{ℕ, ◌+◌, ◌%◌, cond, ◌||◌, List, length, ◌==◌}
use Rattle.header.specs.Bytes.{header_refusal}
use Rattle.records.specs.Record.{records, has_zero}
use Rattle.wide.specs.declared.Seen.{Seen}
use Rattle.wide.specs.Wide.{wides}
use Rattle.wide.specs.Seen.{seen_none, seen_of}
use Rattle.moves.specs.declared.Check.{Check}
use Rattle.moves.specs.Moves.{counted, seen_refusal}
use Rattle.moves.specs.Told.{is_told}

-- behind a header that was refused by this number, or taken
abbrev pub start_of : (edition refused : ℕ) → Check
start_of e n = record { edition = e; refused = n; bytes = 0; seen = seen_none }

-- the header of a recording of the edition that the move starts from
unfoldable pub begun_of : (edition : ℕ) (header : List ℕ) → Check
begun_of e hs = start_of e (header_refusal e hs)

-- what was seen before, and in a section's records
unfoldable pub seen_by : (edition : ℕ) → Seen → List ℕ → Seen
seen_by e s bs =
    cond (e == 1) (record { zero = s.zero || has_zero (records bs); spare = s.spare; stays = s.stays }) (seen_of s (wides bs))

-- a section more; the bytes are counted modulo 2 ^ 64
unfoldable pub over_of : Check → List ℕ → Check
over_of c bs = record {
  edition = c.edition;
  refused = c.refused;
  bytes = (c.bytes + length bs) % 18446744073709551616;
  seen = seen_by c.edition c.seen bs;
}

-- the first check that fails, or 0
unfoldable pub refusal_of : Check → ℕ
refusal_of c =
    cond (c.refused == 0)
    (cond (c.edition == 1) (counted 6 c.bytes (seen_refusal c.seen)) (counted 8 c.bytes (seen_refusal c.seen)))
    c.refused

-- the same, where the check holds 0 or a refusal's number; 17 where it holds another, as only one made by hand does
abbrev pub outcome_of : Check → ℕ
outcome_of c = cond (is_told c.refused) (refusal_of c) 17
