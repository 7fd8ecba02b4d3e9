-- The program as a function of what standard input holds: 01, P8, "A program reads a recording from standard input in sections of 6,000
-- bytes, the last perhaps shorter, stops at the first refusal, and closes at the last record's edge. It prints one line"; of edition 2 one a
-- rank.
-- Assumes nothing.
use Rattle.std.specs.Prelude.{ℕ, zero, suc, ◌+◌, cond, ◌&&◌, List, eqb, length, take, drop}
use Rattle.judge.specs.declared.State.{State}
use Rattle.judge.specs.Calls.{open_of, section_of}
use Rattle.program.specs.declared.Run.{Run}
use Rattle.program.specs.Answer.{answer_line, second_line}

-- after the header's bytes
abbrev pub opened_run : List ℕ → Run
opened_run header = record { refused = (open_of header).refused; state = (open_of header).state; more = eqb (open_of header).refused 0 }

-- after a section's bytes: there may be more where it was taken and was full
abbrev pub next_run : State → List ℕ → Run
next_run s bs =
    record {
      refused = (section_of s bs).refused;
      state = (section_of s bs).state;
      more = eqb (section_of s bs).refused 0 && eqb (length bs) 6000;
    }

-- section after section, at most so many: of the whole input, or of a block of it
unfoldable pub ran_over : (sections : ℕ) → Run → List ℕ → Run
ran_over zero r bs = r
ran_over (suc n) r bs = cond r.more (ran_over n (next_run r.state (take 6000 bs)) (drop 6000 bs)) r

-- all of the input: a section takes a byte at least, but for the last
abbrev pub program_run : List ℕ → Run
program_run input = ran_over (length input + 1) (opened_run (take 6 input)) (drop 6 input)

unfoldable pub program_line : List ℕ → List ℕ
program_line input = answer_line (program_run input).refused (program_run input).state

unfoldable pub program_second : List ℕ → List ℕ
program_second input = second_line (program_run input).refused (program_run input).state
