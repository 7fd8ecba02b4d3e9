-- Opening, sections in turn and closing: what a state answers, in the rules' words, after the sections that were taken. 01, the third
-- demand; "A section is taken or refused as one". Both editions are one machine: `view` says what a rank sees of the bytes.
-- Assumes nothing.
use Rattle.std.specs.Prelude.{ℕ, ◌+◌, ◌/◌, ◌%◌, ◌≤◌, ◌≡◌, true, false, cond, ◌||◌, List, ◌++◌, ltb, length}
use Rattle.laws.specs.Cuts as cuts
use Rattle.header.specs.declared.Header.{Header}
use Rattle.std.specs.Prelude.{Ok}
use Rattle.header.specs.Bytes.{edition_for, parsed_of}
use Rattle.records.specs.Record.{records, has_zero}
use Rattle.wide.specs.Editions.{size, view, spare_in, refusal}
use Rattle.chip.specs.declared.Chip.{Chip}
use Rattle.chip.specs.Chip.{chip_of}
use Rattle.running.specs.Ranges.{limit, last_edge}
use Rattle.running.specs.Said.{no_verdict}
use Rattle.running.specs.Ends.{no_end}
use Rattle.edges.specs.declared.Rank.{Rank}
use Rattle.edges.specs.Step.{so_far}
use Rattle.judge.specs.declared.State.{State}
use Rattle.judge.specs.Calls.{of_second, section_of, closed, not_closed, close_of}
use Rattle.rules.specs.Past.{edge, recording}
use Rattle.rules.specs.Verdict.{verdict_so_far, answer}
use Rattle.carries.specs.Waited.{standing, Waited}

-- opening takes the header h
abbrev pub Opens : (header : List ℕ) → Header → Type 0
Opens header h = parsed_of (edition_for header) header ≡ Ok h

-- what a section of an edition is where it is not refused after so many records
pub record Fits (edition count : ℕ) (bs : List ℕ) : Type 0 where
  pub even : length bs % size edition ≡ 0
  pub room : count + length bs / size edition ≤ limit
  pub steps : has_zero (records (view edition false bs)) ≡ false
  pub zeros : spare_in edition bs ≡ false

-- it ends between records of the edition
abbrev pub Even : (e : ℕ) → List ℕ → Type 0
Even e xs = length xs % size e ≡ 0

-- the state after a section, and its refusal
abbrev pub after : State → List ℕ → State
after s xs = (section_of s xs).state

abbrev pub refused : State → List ℕ → ℕ
refused s xs = (section_of s xs).refused

-- the state after the sections, offered in turn, and the bytes of those that are taken
abbrev pub run : State → List (List ℕ) → State
run = cuts.run after

abbrev pub taken : State → List (List ℕ) → List ℕ
taken = cuts.taken after refused

-- What is to be had of a rank, by the rules, where the records that it has seen are those of the bytes bs: what it counts, the verdict so far, and
-- the waiting times (after a break those just before the broken edge).
pub record Stood (C : Chip) (bs : List ℕ) (n : Rank) : Type 0 where
  pub counted : n.count ≡ length bs / 6
  pub last : n.edge ≡ edge (recording bs)
  pub so-far : so_far n ≡ verdict_so_far C (recording bs)
  pub waits : Waited C n (standing C (recording bs))

-- And of a state after the bytes bs: each rank, which sections it refuses, the verdicts after one that it takes, and closing, in one equation: the
-- refusal 8, or of each rank the verdict, the banks, the registers and the debt. 17 is none of the answers.
pub record Judges (h : Header) (e : ℕ) (bs : List ℕ) (s : State) : Type 0 where
  pub first-rank : Stood (chip_of h) (view e false bs) s.one
  pub second-rank : Stood (chip_of h) (view e true bs) s.two
  pub counted : s.one.count ≡ length bs / size e
  pub refused-is : (xs : List ℕ) → refused s xs ≡ refusal e (length bs / size e) xs
  pub unaltered : (xs : List ℕ) → (refused s xs ≡ 0 → ⊥) → after s xs ≡ s
  pub verdict : (xs : List ℕ) → refused s xs ≡ 0 → (section_of s xs).verdict ≡ verdict_so_far (chip_of h) (recording (view e false (bs ++ xs)))
  pub second : (xs : List ℕ) → refused s xs ≡ 0
      → (section_of s xs).second ≡ of_second e (verdict_so_far (chip_of h) (recording (view e true (bs ++ xs)))) no_verdict
  pub close : (end : ℕ) →
      close_of s end
      ≡ cond (ltb end (edge (recording (view e false bs))) || ltb last_edge end) (not_closed 8)
      (closed (answer (chip_of h) (recording (view e false bs)) end) (of_second e (answer (chip_of h) (recording (view e true bs)) end) no_end))
