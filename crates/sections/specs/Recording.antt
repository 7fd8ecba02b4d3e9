-- A whole recording in bytes: when it is refused, and the verdicts on it: 01, "The recording", and 02, Q-7.
-- Assumes nothing.
use Rattle.std.specs.Prelude.{ℕ, ◌/◌, ◌%◌, Bool, false, cond, ◌||◌, List, eqb, ltb, length, take, drop}
use Rattle.header.specs.Bytes.{edition_for, header_refusal, header_word, header_of}
use Rattle.records.specs.Record.{records, has_zero}
use Rattle.wide.specs.Editions.{size, view, spare_in}
use Rattle.chip.specs.Chip.{chip_of}
use Rattle.answers.specs.declared.Verdict.{Verdict}
use Rattle.rules.specs.Past.{Past, edge, recording}
use Rattle.rules.specs.Verdict.{shown_verdict}

-- the six bytes of the header, or fewer, and the bytes behind them
abbrev pub header_bytes : List ℕ → List ℕ
header_bytes bs = take 6 bs

abbrev pub body : List ℕ → List ℕ
body bs = drop 6 bs

-- the records as a rank sees them, latest first
abbrev pub past : (second : Bool) → List ℕ → Past
past second bs = recording (view (edition_for bs) second (body bs))

-- | 8 | end edge before the last record's, or above 2^44 |
abbrev pub end_refusal : List ℕ → (end : ℕ) → ℕ
end_refusal bs end = cond (ltb end (edge (past false bs)) || ltb 17592186044416 end) 8 0

-- | 5 | section length not a multiple of 6 |, or in edition 2 of 8, and | 7 | records would pass the limit |, of 1,048,576; then 6, 14 and 8
unfoldable pub records_refusal : List ℕ → (end : ℕ) → ℕ
records_refusal bs end =
    cond (eqb (length (body bs) % size (edition_for bs)) 0)
    (cond (ltb 1048576 (length (body bs) / size (edition_for bs))) 7
    (cond (has_zero (records (view (edition_for bs) false (body bs)))) 6
    (cond (spare_in (edition_for bs) (body bs)) 14 (end_refusal bs end))))
    5

-- checks 1, 2, 3, 4 of the header, then 5, 7, 6, 14, 8; 0: the recording is judged
unfoldable pub whole_refusal : List ℕ → (end : ℕ) → ℕ
whole_refusal bs end =
    cond (eqb (header_refusal (edition_for bs) (header_bytes bs)) 0) (records_refusal bs end) (header_refusal (edition_for bs) (header_bytes bs))

-- "9 asks 40 when the first four bits are 2"
abbrev pub needed : List ℕ → ℕ
needed bs = cond (eqb (edition_for bs) 2) 40 20

-- "Judging a whole recording checks 9, 1, 2, 3, 4, 5, 7, 6, 14, 8": of a buffer with so much room
unfoldable pub judge_code : List ℕ → (end room : ℕ) → ℕ
judge_code bs end room = cond (ltb room (needed bs)) 9 (whole_refusal bs end)

-- a rank's verdict by the 31 rules, looking back over all of the recording
unfoldable pub whole_verdict : (second : Bool) → List ℕ → (end : ℕ) → Verdict
whole_verdict second bs end = shown_verdict (chip_of (header_of (header_word (header_bytes bs)))) (past second bs) end
