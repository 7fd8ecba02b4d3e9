-- What each public function answers, by name: cited by its `ensures`, and by its line in `proofs/Answers.antt` that two answers are
-- equal.
-- Assumes nothing.
use Rattle.std.specs.Prelude.{ℕ, ◌≡◌, List, length}
use Rattle.laws.specs.Lent.{Wrote}
use Rattle.header.specs.declared.Header.{Header}
use Rattle.registers.specs.Reading.{Decoded, decoded_of, Answer, read_of}

-- `decode`
abbrev pub Decode : (h : Header) (number code : ℕ) (r : Decoded) → Type 0
Decode h number code r = r ≡ decoded_of h number code

-- a call that answers so, and what it leaves in the lent bytes
abbrev pub Gives : Answer → (before : List ℕ) (r : ℕ) (after : List ℕ) → Type 0
Gives a before r after = Wrote a.number a.bytes before r after

-- `read`: "register reading 9, 1, 2, 3, 4, 11", and six bytes
abbrev pub Read : (header : List ℕ) (number code : ℕ) (before : List ℕ) (r : ℕ) (after : List ℕ) → Type 0
Read header number code before r after = Gives (read_of header number code (length before)) before r after
