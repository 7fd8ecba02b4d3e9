-- What a command wants of a bank, by the numbers of the rules' definitions.
-- Assumes nothing.
use Rattle.std.specs.Prelude.{ℕ}
use Rattle.kept.specs.declared.breaks.Want.{Want}
use Rattle.kept.specs.declared.breaks.Want.TheVariants.{Nothing, Idle, Open, NotClosing}

abbrev pub number_of : Want → ℕ
number_of Nothing = 0
number_of Idle = 1
number_of Open = 2
number_of NotClosing = 3
