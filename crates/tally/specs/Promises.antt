-- What each public function answers, by name: cited by its `ensures`, and by its line in `proofs/Answers.antt` that two answers are
-- equal.
-- Assumes nothing.
use Rattle.std.specs.Prelude.{Option, Result, ◌≡◌, ℕ, ◌<◌, Bool, List}
use Rattle.records.specs.declared.Record.{Record}
use Rattle.records.specs.Record.{words}
use Rattle.tally.specs.declared.Tally.{Tally}
use Rattle.refusals.specs.declared.Refusal.{Refusal}
use Rattle.tally.specs.declared.Reached.{Reached}
use Rattle.tally.specs.declared.Found.{Found}
use Rattle.tally.specs.declared.Spot.{Spot}
use Rattle.tally.specs.declared.Placed.{Placed}
use Rattle.tally.specs.Kinds.{kind_at}
use Rattle.tally.specs.Tally as tally
use Rattle.tally.specs.Walk as walk
use Rattle.tally.specs.Refused.{refused_at}
use Rattle.tally.specs.Places.{start_of, begun_of, passed_of, find_of}

-- `Tally::start`
abbrev pub TallyStart : (r : Tally) → Type 0
TallyStart r = r ≡ tally.start

-- `Tally::section`
abbrev pub TallySection : (t : Tally) (bytes : List ℕ) (r : Result Tally Refusal) → Type 0
TallySection t bytes r = r ≡ tally.section_of t bytes

-- `kind_at`; it is one of the nineteen places of a tally
abbrev pub KindAt : (level sleeps : Bool) (r : Record) (k : ℕ) → Type 0
KindAt level sleeps r k = (k ≡ kind_at level sleeps r) × (k < 19)

-- `Reached::start`
abbrev pub ReachedStart : (limit : ℕ) (r : Reached) → Type 0
ReachedStart limit r = r ≡ walk.start limit

-- `Reached::next`
abbrev pub ReachedNext : (s : Reached) (r : Record) (n : Reached) → Type 0
ReachedNext s r n = n ≡ walk.next_of s r

-- `Reached::found`
abbrev pub ReachedFound : (s : Reached) (r : Record) (f : Found) → Type 0
ReachedFound s r f = f ≡ walk.found_of s r

-- `refused_at`
abbrev pub RefusedAt : (refused : ℕ) (bytes : List ℕ) (count : ℕ) (r : ℕ) → Type 0
RefusedAt refused bytes count r = r ≡ refused_at refused bytes count

-- `Spot::start`
abbrev pub SpotStart : (limit : ℕ) (r : Spot) → Type 0
SpotStart limit r = r ≡ start_of limit

-- `Spot::begun`
abbrev pub SpotBegun : (s : Spot) (headed : Bool) (r : Spot) → Type 0
SpotBegun s headed r = r ≡ begun_of s headed

-- `Spot::passed`
abbrev pub SpotPassed : (s : Spot) (bytes : List ℕ) (r : Spot) → Type 0
SpotPassed s bytes r = r ≡ passed_of s (words bytes)

-- `Spot::find`
abbrev pub SpotFind : (s : Spot) (n : ℕ) (bytes : List ℕ) (r : Option Placed) → Type 0
SpotFind s n bytes r = r ≡ find_of n s (words bytes)
