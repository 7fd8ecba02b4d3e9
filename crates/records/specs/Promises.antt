-- What each public function answers, by name: cited by its `ensures`, and by its line in `proofs/Answers.antt` that two answers are
-- equal.
-- Assumes nothing.
use Rattle.std.specs.Prelude.{ℕ, Bool, List, ◌≡◌}
use Rattle.records.specs.declared.Record.{Record}
use Rattle.records.specs.declared.Command.{Command}
use Rattle.records.specs.Pieces.{pieces}
use Rattle.records.specs.Record.{record_at}
use Rattle.records.specs.Command.{command_of, rank}

-- `sixes`
abbrev pub Sixes : (bytes : List ℕ) (r : List (List ℕ)) → Type 0
Sixes bytes r = r ≡ pieces 6 bytes

-- `decode`
abbrev pub Decode : (six : List ℕ) (r : Record) → Type 0
Decode six r = r ≡ record_at six 0

-- `command_of`
abbrev pub CommandOf : (before asleep : Bool) (r : Record) (c : Command) → Type 0
CommandOf before asleep r c = c ≡ command_of before asleep r

-- `rank_of`
abbrev pub RankOf : (c : Command) (r : ℕ) → Type 0
RankOf c r = r ≡ rank c
