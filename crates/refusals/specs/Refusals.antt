-- The numbers of the refusals: the rules paper's, by which C and the programs' lines name them.
-- Assumes nothing.
use Rattle.std.specs.Prelude.{ℕ, ◌+◌, ◌*◌, ◌/◌, Result, Ok, Err, Option, None, Some, cond, eqb}
use Rattle.refusals.specs.declared.Refusal.{Refusal}
use Rattle.refusals.specs.declared.Refusal.TheVariants.{HeaderLength, Edition, ZeroField, Period, CutShort, ZeroStep, TooMany, EndEdge, Room, Burst, Register, NoWayBack, ZeroBits, State}

-- "11 plus 256 times that bit"
abbrev pub number_of : Refusal → ℕ
number_of HeaderLength = 1
number_of Edition = 2
number_of ZeroField = 3
number_of Period = 4
number_of CutShort = 5
number_of ZeroStep = 6
number_of TooMany = 7
number_of EndEdge = 8
number_of Room = 9
number_of Burst = 10
number_of (Register bit) = 11 + 256 * bit
number_of NoWayBack = 13
number_of ZeroBits = 14
number_of State = 17

-- "success returns 0", a refusal its number
abbrev pub number_in : {A : Type 0} → Result A Refusal → ℕ
number_in (Ok x) = 0
number_in (Err r) = number_of r

-- the same of what was refused so far, if anything was
abbrev pub number_if : Option Refusal → ℕ
number_if None = 0
number_if (Some r) = number_of r

-- the refusal of a number
abbrev pub refusal_of : ℕ → Refusal
refusal_of n =
    cond (eqb n 1) HeaderLength (cond (eqb n 2) Edition (cond (eqb n 3) ZeroField (cond (eqb n 4) Period
    (cond (eqb n 5) CutShort (cond (eqb n 6) ZeroStep (cond (eqb n 7) TooMany (cond (eqb n 8) EndEdge
    (cond (eqb n 9) Room (cond (eqb n 10) Burst (cond (eqb n 13) NoWayBack (cond (eqb n 14) ZeroBits
    (cond (eqb n 17) State (Register (n / 256))))))))))))))
