-- What each public function answers, by name: cited by its `ensures`, and by its line in `proofs/Answers.antt` that two answers are
-- equal.
-- Assumes nothing.
use Rattle.std.specs.Prelude.{ℕ, List, ◌≡◌}
use Rattle.judge.specs.declared.State.{State}
use Rattle.judge.specs.Answers.{OpenAnswer, SectionAnswer, CloseAnswer, zeros}
use Rattle.judge.specs.Calls.{open_of, section_of, close_of}

-- `State::open`
abbrev pub Open : (header : List ℕ) (r : OpenAnswer) → Type 0
Open header r = r ≡ open_of header

-- `State::section`
abbrev pub Section : (s : State) (bytes : List ℕ) (r : SectionAnswer) → Type 0
Section s bytes r = r ≡ section_of s bytes

-- `State::close`
abbrev pub Close : (s : State) (end : ℕ) (r : CloseAnswer) → Type 0
Close s end r = r ≡ close_of s end

-- `State::unopened`
abbrev pub Unopened : (r : State) → Type 0
Unopened r = r ≡ zeros
