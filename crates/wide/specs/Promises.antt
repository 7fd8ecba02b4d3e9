-- What each public function answers, by name: cited by its `ensures`, and by its line in `proofs/Answers.antt` that two answers are
-- equal.
-- Assumes nothing.
use Rattle.std.specs.Prelude.{ℕ, ◌*◌, ◌/◌, ◌≤◌, Bool, true, false, List, ◌++◌, ◌≡◌, length, take, drop}
use Rattle.records.specs.Record.{records, has_zero}
use Rattle.wide.specs.declared.Part.{Part}
use Rattle.wide.specs.declared.Seen.{Seen}
use Rattle.wide.specs.declared.Steps.{Steps}
use Rattle.wide.specs.Wide.{wides, has_spare}
use Rattle.wide.specs.Moved.{narrow, widen}
use Rattle.wide.specs.Seen.{seen_of}
use Rattle.wide.specs.Steps.{steps_seen}

-- so many bytes are there, which a caller that takes them must know
abbrev pub Holds : ℕ → List ℕ → Type 0
Holds n xs = (n ≤ length xs) × (n ≡ length (take n xs))

-- the records of `part`, narrowed to the front of the lent bytes
pub record Narrowed (part : List ℕ) (second : Bool) (before : List ℕ) (r : Part) (after : List ℕ) : Type 0 where
  pub count : r.len ≡ length (narrow second part)
  pub spare : r.spare ≡ has_spare (wides part)
  pub out : after ≡ narrow second part ++ drop r.len before

-- `narrow_part`: 1,000 records of eight bytes at most
abbrev pub NarrowPart : (bytes : List ℕ) (at : ℕ) (second : Bool) (before : List ℕ) (r : Part) (after : List ℕ) → Type 0
NarrowPart bytes at second before r after = Holds r.len after × Narrowed (take 8000 (drop at bytes)) second before r after

-- `split_part`: 1,000 records of eight bytes at most, for both ranks
pub record Split (part : List ℕ) (before before' : List ℕ) (r : Part) (after after' : List ℕ) : Type 0 where
  pub first : Narrowed part false before r after
  pub second : Narrowed part true before' r after'

abbrev pub SplitPart : (bytes : List ℕ) (at : ℕ) (before before' : List ℕ) (r : Part) (after after' : List ℕ) → Type 0
SplitPart bytes at before before' r after after' =
    Holds r.len after × Holds r.len after' × Split (take 8000 (drop at bytes)) before before' r after after'

-- `narrow_records`: as many as there is room for
abbrev pub NarrowRecords : (bytes : List ℕ) (second : Bool) (before : List ℕ) (r : Part) (after : List ℕ) → Type 0
NarrowRecords bytes second before r after = Narrowed (take (8 * (length before / 6)) bytes) second before r after

-- the records of `part`, widened to the front of the lent bytes
pub record Widened (part before : List ℕ) (r : ℕ) (after : List ℕ) : Type 0 where
  pub count : r ≡ length (widen part)
  pub out : after ≡ widen part ++ drop r before

-- `widen_records`: as many as there is room for
abbrev pub WidenRecords : (bytes before : List ℕ) (r : ℕ) (after : List ℕ) → Type 0
WidenRecords bytes before r after = Widened (take (6 * (length before / 8)) bytes) before r after

-- `seen_in`
abbrev pub SeenIn : (s : Seen) (bytes : List ℕ) (r : Seen) → Type 0
SeenIn s bytes r = r ≡ seen_of s (wides bytes)

-- `steps_in`: of 1,048,576 records at most
abbrev pub StepsIn : (bytes : List ℕ) (r : Steps) → Type 0
StepsIn bytes r = r ≡ steps_seen (wides (take 8388608 bytes))

-- `step_of_zero`
abbrev pub StepOfZero : (bytes : List ℕ) (r : Bool) → Type 0
StepOfZero bytes r = r ≡ has_zero (records bytes)
