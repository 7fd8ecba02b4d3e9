-- What each public function answers, by name: cited by its `ensures`, and by its line in `proofs/Rounding.antt` that two answers are
-- equal.
-- Assumes nothing.
use Rattle.std.specs.Prelude.{◌≡◌}
use Rattle.units.specs.declared.Ps.{Ps}
use Rattle.units.specs.declared.Clocks.{Clocks}
use Rattle.units.specs.Round.{up_of, down_of}

-- `Ps::up`
abbrev pub Up : (time period : Ps) (r : Clocks) → Type 0
Up time period r = r ≡ up_of time period

-- `Ps::down`
abbrev pub Down : (time period : Ps) (r : Clocks) → Type 0
Down time period r = r ≡ down_of time period
