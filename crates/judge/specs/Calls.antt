-- Opening, a section and closing, for every state and every input: 01, "The recording", below the table of refusals, and 02, Q-7.
-- Assumes nothing.
use Rattle.std.specs.Prelude.{ℕ, true, false, cond, ◌||◌, List, eqb, ltb}
use Rattle.header.specs.declared.Header.{Header}
use Rattle.std.specs.Prelude.{Ok, Err}
use Rattle.refusals.specs.Refusals.{number_of}
use Rattle.header.specs.Bytes.{Parsed, edition_for, parsed_of}
use Rattle.answers.specs.declared.End.{End}
use Rattle.answers.specs.declared.Verdict.{Verdict}
use Rattle.records.specs.Record.{records}
use Rattle.wide.specs.Editions.{view, refusal}
use Rattle.chip.specs.Chip.{chip_of}
use Rattle.running.specs.Said.{no_verdict}
use Rattle.running.specs.Ranges.{last_edge}
use Rattle.running.specs.Ends.{no_end}
use Rattle.edges.specs.Step.{fold_of, so_far}
use Rattle.edges.specs.Ends.{start_rank, end_of, ended_of}
use Rattle.judge.specs.declared.State.{State}
pub use Rattle.judge.specs.Answers.{OpenAnswer, SectionAnswer, CloseAnswer, holding, no_header, zeros, refuse, not_closed}
use Rattle.judge.specs.Ranges.{in_range}

-- ── Opening ─────────────────────────────────────────────────────────────────────────────────

-- "At first all banks are idle and no wait runs"; "CKE is high before the first record"; "Refresh debt starts at 0"
abbrev pub start_of : Header → (edition : ℕ) → State
start_of h e = holding h e (start_rank (chip_of h)) (start_rank (chip_of h))

-- "Opening checks 1, 2, 3, 4": by the cases of the header's answer
abbrev pub opened_by : (edition : ℕ) → Parsed → OpenAnswer
opened_by e (Ok h) = record { refused = 0; state = start_of h e }
opened_by e (Err r) = record { refused = number_of r; state = zeros }

unfoldable pub open_of : (header : List ℕ) → OpenAnswer
open_of bytes = opened_by (edition_for bytes) (parsed_of (edition_for bytes) bytes)

-- ── A section ───────────────────────────────────────────────────────────────────────────────

-- of the second rank: edition 1 has none
abbrev pub of_second : {A : Type 0} → (edition : ℕ) → A → (none : A) → A
of_second e x none = cond (eqb e 2) x none

abbrev pub second_verdict : State → Verdict
second_verdict s = of_second s.edition (so_far s.two) no_verdict

abbrev pub take : State → SectionAnswer
take s = record { refused = 0; state = s; verdict = so_far s.one; second = second_verdict s }

-- the state after the records, as each rank sees them
abbrev pub folded : State → (bytes : List ℕ) → State
folded s bs =
    holding s.header s.edition
    (fold_of (chip_of s.header) s.one (records (view s.edition false bs)))
    (fold_of (chip_of s.header) s.two (records (view s.edition true bs)))

-- taken or refused, by the number of the refusal
abbrev pub taken_by : (refusal : ℕ) → State → (bytes : List ℕ) → SectionAnswer
taken_by n s bs = cond (eqb n 0) (take (folded s bs)) (refuse n s)

-- "a section 17, 5, 7, 6, 14". "A section is taken or refused as one"
unfoldable pub section_of : State → (bytes : List ℕ) → SectionAnswer
section_of s bs = cond (in_range s) (taken_by (refusal s.edition s.one.count bs) s bs) (refuse 17 s)

-- ── Closing ─────────────────────────────────────────────────────────────────────────────────

abbrev pub closed : (first second : End) → CloseAnswer
closed x y = record { refused = 0; end = x; second = y }

abbrev pub second_end : State → (end : ℕ) → End
second_end s t = of_second s.edition (end_of (chip_of s.header) s.two t) no_end

-- the same, with the checks that a rank makes by itself
abbrev pub second_ended : State → (end : ℕ) → End
second_ended s t = of_second s.edition (ended_of (chip_of s.header) s.two t) no_end

-- "closing 17, 8"
-- | 8 | end edge before the last record's, or above 2^44 |
unfoldable pub close_of : State → (end : ℕ) → CloseAnswer
close_of s t =
    cond (in_range s)
    (cond (ltb t s.one.edge || ltb last_edge t) (not_closed 8) (closed (end_of (chip_of s.header) s.one t) (second_end s t)))
    (not_closed 17)
