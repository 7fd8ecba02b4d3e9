-- The lines that the program prints of what it has judged, the first rank's first: 01, P8, and 02, Q-7.
-- Assumes nothing.
use Rattle.std.specs.Prelude.{ℕ, cond, ◌&&◌, List, [], eqb}
use Rattle.judge.specs.declared.State.{State}
use Rattle.judge.specs.Answers.{CloseAnswer as Closed}
use Rattle.judge.specs.Calls.{close_of}
use Rattle.lines.specs.Line.{verdict_line, refusal_line}

-- closing is refused or has a verdict
unfoldable pub closing_line : Closed → List ℕ
closing_line c = cond (eqb c.refused 0) (verdict_line c.end.verdict) (refusal_line c.refused)

-- "stops at the first refusal, and closes at the last record's edge"
unfoldable pub answer_line : (refused : ℕ) → State → List ℕ
answer_line refused s = cond (eqb refused 0) (closing_line (close_of s s.one.edge)) (refusal_line refused)

-- the second rank's line, which only edition 2 has
unfoldable pub closing_second : Closed → List ℕ
closing_second c = cond (eqb c.refused 0) (verdict_line c.second.verdict) []

unfoldable pub second_line : (refused : ℕ) → State → List ℕ
second_line refused s = cond (eqb refused 0 && eqb s.edition 2) (closing_second (close_of s s.one.edge)) []
