-- What each public function answers, by name: cited by its `ensures`, and by its line in `proofs/Answers.antt` that two answers are
-- equal.
-- Assumes nothing.
use Rattle.std.specs.Prelude.{ℕ, List, Option, ◌≡◌}
use Rattle.glossary.specs.declared.Level.{Level}
use Rattle.glossary.specs.declared.Row.{Row}
use Rattle.glossary.specs.declared.Line.{Line}
use Rattle.glossary.specs.Glossary.{pin_of, row_of, place_of, line_of}

-- `Level::pin`
abbrev pub PinOf : (level : Level) (r : Option ℕ) → Type 0
PinOf level r = r ≡ pin_of level

-- `row_at`
abbrev pub RowAt : (place : ℕ) (r : Row) → Type 0
RowAt place r = r ≡ row_of place

-- `row_of`: the first of its kind
abbrev pub RowOf : (kind : ℕ) (r : Row) → Type 0
RowOf kind r = r ≡ row_of (place_of kind)

-- `line_at`
abbrev pub LineAt : (place : ℕ) (counts : List ℕ) (r : Line) → Type 0
LineAt place counts r = r ≡ line_of place counts
