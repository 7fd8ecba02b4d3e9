-- What each public function answers, by name: cited by its `ensures`, and by its line in `proofs/Answers.antt` that two answers are
-- equal.
-- Assumes nothing.
use Rattle.std.specs.Prelude.{ℕ, Bool, ◌≡◌}
use Rattle.codes.specs.Codes.{cl, wr, resets, al, cwl, rl, wl}

-- `cl`; 0 where the code is not listed
abbrev pub Cl : (mr0 : ℕ) (r : ℕ) → Type 0
Cl mr0 r = r ≡ cl mr0

-- `wr`
abbrev pub Wr : (mr0 : ℕ) (r : ℕ) → Type 0
Wr mr0 r = r ≡ wr mr0

-- `resets`
abbrev pub Resets : (mr0 : ℕ) (r : Bool) → Type 0
Resets mr0 r = r ≡ resets mr0

-- `al`
abbrev pub Al : (mr0 mr1 : ℕ) (r : ℕ) → Type 0
Al mr0 mr1 r = r ≡ al mr0 mr1

-- `cwl`
abbrev pub Cwl : (mr2 : ℕ) (r : ℕ) → Type 0
Cwl mr2 r = r ≡ cwl mr2

-- `rl`
abbrev pub Rl : (mr0 mr1 : ℕ) (r : ℕ) → Type 0
Rl mr0 mr1 r = r ≡ rl mr0 mr1

-- `wl`
abbrev pub Wl : (mr0 mr1 mr2 : ℕ) (r : ℕ) → Type 0
Wl mr0 mr1 mr2 r = r ≡ wl mr0 mr1 mr2
