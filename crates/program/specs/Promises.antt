-- What each public function answers, by name: cited by its `ensures`, and by its line in `proofs/Runs.antt` that two answers are
-- equal.
-- Assumes nothing.
use Rattle.std.specs.Prelude.{ℕ, List, ◌≡◌}
use Rattle.judge.specs.declared.State.{State}
use Rattle.lines.specs.Promises as lines
use Rattle.program.specs.declared.Run.{Run}
use Rattle.program.specs.Answer.{answer_line, second_line}
use Rattle.program.specs.Program.{opened_run, next_run, ran_over}

-- `begun`
abbrev pub Begun : (header : List ℕ) (r : Run) → Type 0
Begun header r = r ≡ opened_run header

-- `next`
abbrev pub Next : (state : State) (bytes : List ℕ) (r : Run) → Type 0
Next state bytes r = r ≡ next_run state bytes

-- `over`: ten sections at most
abbrev pub Over : (start : Run) (block : List ℕ) (r : Run) → Type 0
Over start block r = r ≡ ran_over 10 start block

-- `line`
abbrev pub Line : (run : Run) (before : List ℕ) (r : ℕ) (after : List ℕ) → Type 0
Line run before r after = lines.Line (answer_line run.refused run.state) before r after

-- `second_line`
abbrev pub SecondLine : (run : Run) (before : List ℕ) (r : ℕ) (after : List ℕ) → Type 0
SecondLine run before r after = lines.Line (second_line run.refused run.state) before r after
