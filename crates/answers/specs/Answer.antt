-- The first of several breaks, the bytes of a verdict and the fields of a bank: 01, "The recording", below the table of refusals.
-- Assumes nothing.
use Rattle.std.specs.Prelude.{ℕ, zero, suc, ◌/◌, ◌%◌, Bool, cond, Option, None, Some, List, [], ◌∷◌, ◌++◌, ltb, length}
use Rattle.laws.specs.Lent.{Wrote}
use Rattle.answers.specs.declared.Break.{Break}
use Rattle.answers.specs.declared.Break.TheVariants.{Fine, Broken}
use Rattle.answers.specs.declared.Bank.{Bank}
use Rattle.answers.specs.declared.Bank.TheVariants.{Idle, Open, Closing}
use Rattle.answers.specs.declared.Shown.{Shown}
use Rattle.answers.specs.declared.Shown.TheVariants.{Idle as ShownIdle, Open as ShownOpen, Closing as ShownClosing}
use Rattle.answers.specs.declared.Verdict.{Verdict}

-- the first of two breaks
unfoldable pub or_else : Break → Break → Break
or_else Fine c = c
or_else (Broken rule partner needed found) c = Broken rule partner needed found

-- the first break of the banks below n
unfoldable pub lowest : (ℕ → Break) → ℕ → Break
lowest f zero = Fine
lowest f (suc n) = or_else (lowest f n) (f n)

-- a number in 8, 24 and 48 bits, most significant first
abbrev pub bytes1 : ℕ → List ℕ → List ℕ
bytes1 n rest = n % 256 ∷ rest

abbrev pub bytes3 : ℕ → List ℕ → List ℕ
bytes3 n rest = n / 65536 % 256 ∷ n / 256 % 256 ∷ bytes1 n rest

abbrev pub bytes6 : ℕ → List ℕ → List ℕ
bytes6 n rest = n / 1099511627776 % 256 ∷ n / 4294967296 % 256 ∷ n / 16777216 % 256 ∷ bytes3 n rest

-- "outcome 8 (0 clean, 1 broken), rule 8, record 24, partner 24, edge 48, needed 24, found 24"
unfoldable pub verdict_bytes : Verdict → List ℕ
verdict_bytes v =
    bytes1 v.outcome (bytes1 v.rule (bytes3 v.number (bytes3 v.partner (bytes6 v.edge (bytes3 v.needed (bytes3 v.found []))))))

-- | 9 | lent buffer too short |
abbrev pub room_for : (bytes room : ℕ) → ℕ
room_for bytes room = cond (ltb room bytes) 9 0

-- "A verdict is written in 20 bytes .. Later bytes of the buffer keep their values"
abbrev pub Reported : Verdict → (before : List ℕ) (r : ℕ) (after : List ℕ) → Type 0
Reported v before r after = Wrote (room_for 20 (length before)) (verdict_bytes v) before r after

-- 02, Q-7: "one verdict per rank (40 bytes, first rank first)"
abbrev pub ReportedBoth : (first second : Verdict) (before : List ℕ) (r : ℕ) (after : List ℕ) → Type 0
ReportedBoth v w before r after = Wrote (room_for 40 (length before)) (verdict_bytes v ++ verdict_bytes w) before r after

-- "A bank is idle, open or closing, with row (A15..A0) and ACT edge unless idle"
abbrev pub shown_of : Bank → Shown
shown_of Idle = ShownIdle
shown_of (Open at num row) = ShownOpen row at
shown_of (Closing at num row) = ShownClosing row at

-- 0, 1, 2 for the three
abbrev pub status_of : Shown → ℕ
status_of ShownIdle = 0
status_of (ShownOpen row act) = 1
status_of (ShownClosing row act) = 2

-- row and ACT edge, 0 where it is idle
abbrev pub row_of : Shown → ℕ
row_of ShownIdle = 0
row_of (ShownOpen row act) = row
row_of (ShownClosing row act) = row

abbrev pub act_of : Shown → ℕ
act_of ShownIdle = 0
act_of (ShownOpen row act) = act
act_of (ShownClosing row act) = act

-- a register that is not written has no code
abbrev pub code_if : (written : Bool) → (code : ℕ) → Option ℕ
code_if w c = cond w (Some c) None
