-- What 01 wants the program to print of its input: P8, "stops at the first refusal, and closes at the last record's edge"; of edition 2 a line a rank.
-- It names no judge.
-- Assumes nothing.
use Rattle.std.specs.Prelude.{ℕ, zero, suc, ◌+◌, ◌/◌, Bool, true, false, cond, List, [], eqb, length, take, drop}
use Rattle.header.specs.Bytes.{edition_for, header_refusal, header_word, header_of}
use Rattle.wide.specs.Editions.{size, view, refusal}
use Rattle.chip.specs.Chip.{chip_of}
use Rattle.rules.specs.Past.{recording}
use Rattle.rules.specs.Verdict.{verdict_so_far}
use Rattle.lines.specs.Line.{verdict_line, refusal_line}

-- the first refusal of sections of 6,000 bytes, in the order in which they come, after so many records of an edition; 0: all are taken
unfoldable pub first_refusal : (edition sections count : ℕ) → List ℕ → ℕ
first_refusal e zero count bs = 0
first_refusal e (suc n) count bs =
    cond (eqb (refusal e count (take 6000 bs)) 0)
    (cond (eqb (length (take 6000 bs)) 6000) (first_refusal e n (count + 6000 / size e) (drop 6000 bs)) 0)
    (refusal e count (take 6000 bs))

abbrev pub records_refused : List ℕ → ℕ
records_refused input = first_refusal (edition_for input) (length input + 1) 0 (drop 6 input)

-- the rules' verdict on the uncut recording at its last record's edge, as a rank sees it
abbrev pub rank_line : (second : Bool) → List ℕ → List ℕ
rank_line second input =
    verdict_line (verdict_so_far (chip_of (header_of (header_word (take 6 input)))) (recording (view (edition_for input) second (drop 6 input))))

-- the first rank's line, and the second's, which is none in edition 1
abbrev pub verdict_lines : List ℕ → List ℕ × List ℕ
verdict_lines input = (rank_line false input, cond (eqb (edition_for input) 2) (rank_line true input) [])

-- a refusal has one line
abbrev pub refused_lines : ℕ → List ℕ × List ℕ
refused_lines n = (refusal_line n, [])

-- the header's refusal, or the first section's that is refused, or the verdicts
unfoldable pub wanted_lines : List ℕ → List ℕ × List ℕ
wanted_lines input =
    cond (eqb (header_refusal (edition_for input) (take 6 input)) 0)
    (cond (eqb (records_refused input) 0) (verdict_lines input) (refused_lines (records_refused input)))
    (refused_lines (header_refusal (edition_for input) (take 6 input)))
