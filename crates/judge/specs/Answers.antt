-- What opening, a section and a closing answer, whether or not they are refused: the refusal's number (0: none), and what comes with it.
-- The calls' results are read as these, so that the two are one answer: an `Ok` has the number 0, an `Err` its refusal's.
-- Assumes nothing.
use Rattle.std.specs.Prelude.{ℕ, false, Result, Ok, Err}
use Rattle.refusals.specs.declared.Refusal.{Refusal}
use Rattle.refusals.specs.Refusals.{number_of}
use Rattle.header.specs.declared.Header.{Header}
use Rattle.answers.specs.declared.End.{End}
use Rattle.answers.specs.declared.Verdict.{Verdict}
use Rattle.running.specs.Said.{no_verdict}
use Rattle.running.specs.Ends.{no_end}
use Rattle.edges.specs.declared.Rank.{Rank}
use Rattle.edges.specs.Ends.{fresh_rank}
use Rattle.judge.specs.declared.State.{State}
use Rattle.judge.specs.declared.Taken.{Taken}
use Rattle.judge.specs.declared.Closed.{Closed}

pub record OpenAnswer : Type 0 where
  pub refused : ℕ
  pub state : State

pub record SectionAnswer : Type 0 where
  pub refused : ℕ
  pub state : State
  pub verdict : Verdict
  pub second : Verdict

pub record CloseAnswer : Type 0 where
  pub refused : ℕ
  pub end : End
  pub second : End

abbrev pub holding : Header → (edition : ℕ) → (one two : Rank) → State
holding h e one two = record { header = h; edition = e; one = one; two = two }

-- where opening is refused there is no state; every section and every closing of the state of zeros is refused
abbrev pub no_header : Header
no_header = record { bin = 0; dense = false; wide = false; hot = false; period = record { ps = 0 } }

abbrev pub zeros : State
zeros = holding no_header 0 (fresh_rank false 0 0) (fresh_rank false 0 0)

abbrev pub opened_as : Result State Refusal → OpenAnswer
opened_as (Ok s) = record { refused = 0; state = s }
opened_as (Err r) = record { refused = number_of r; state = zeros }

-- "A refusal returns its number alone and the state unaltered"
abbrev pub refuse : ℕ → State → SectionAnswer
refuse n s = record { refused = n; state = s; verdict = no_verdict; second = no_verdict }

abbrev pub taken_as : State → Result Taken Refusal → SectionAnswer
taken_as s (Ok t) = record { refused = 0; state = t.state; verdict = t.verdict; second = t.second }
taken_as s (Err r) = refuse (number_of r) s

-- "A refusal returns its number alone"
abbrev pub not_closed : ℕ → CloseAnswer
not_closed n = record { refused = n; end = no_end; second = no_end }

abbrev pub closed_as : Result Closed Refusal → CloseAnswer
closed_as (Ok c) = record { refused = 0; end = c.end; second = c.second }
closed_as (Err r) = not_closed (number_of r)
