-- What judging a whole recording answers: the verdicts, or its refusal.
-- Assumes nothing.
use Rattle.std.specs.Prelude.{ℕ, ◌≡◌, List, Result, Ok, Err}
use Rattle.refusals.specs.declared.Refusal.{Refusal}
use Rattle.refusals.specs.Refusals.{number_of}
use Rattle.sections.specs.Recording.{whole_refusal}
use Rattle.firmware.specs.declared.whole.Whole.{Whole}
use Rattle.firmware.specs.Calls.{Judged}

abbrev pub JudgedAs : (recording : List ℕ) (end : ℕ) → Result Whole Refusal → Type 0
JudgedAs recording end (Ok w) = Judged recording end 0 w.verdict w.second
JudgedAs recording end (Err r) = number_of r ≡ whole_refusal recording end
