-- The rows by which a record is of a kind, with its name and its meaning: 01, "Commands and the 25 rules", first paragraph, and 02, Q-1, as a table.
-- Assumes nothing.
use Rattle.std.specs.Prelude.{ℕ, zero, suc, ◌+◌, ◌/◌, ◌%◌, Bool, true, false, cond, ◌&&◌, List, [], ◌∷◌, Option, None, Some, map, eqb, ltb, get_or}
use Prim.Native.String.{String}
use Rattle.records.specs.declared.Record.{Record}
use Rattle.records.specs.Command.{a10}
use Rattle.glossary.specs.declared.Level.{Level}
use Rattle.glossary.specs.declared.Level.TheVariants.{Low, High, Any}
use Rattle.glossary.specs.declared.Row.{Row}
use Rattle.glossary.specs.declared.Line.{Line}
use Rattle.glossary.specs.Text.{filled}

-- ── The table ───────────────────────────────────────────────────────────────────────────────

-- a level as the table writes it: 0 low, 1 high, x any
abbrev pub x : ℕ
x = 2

abbrev pub level_of : ℕ → Level
level_of zero = Low
level_of (suc zero) = High
level_of (suc (suc n)) = Any

-- its digit, where it is not any
abbrev pub pin_of : Level → Option ℕ
pin_of Low = Some 0
pin_of High = Some 1
pin_of Any = None

abbrev row : (kind : ℕ) (name : String) (before now asleep cs ras cas we a10 : ℕ) (meaning : String) → Row
row kind name before now asleep cs ras cas we a10 meaning = record {
  kind = kind;
  name = filled 9 name;
  levels = map level_of (before ∷ now ∷ asleep ∷ cs ∷ ras ∷ cas ∷ we ∷ a10 ∷ []);
  meaning = filled 52 meaning;
}

-- The kind, its name, CKE before and now, asleep before, CS RAS CAS WE, A10, what it means. "0010 PRE (A10: all banks)", "0100 WR, 0101 RD (A10:
-- auto precharge)", "0110 ZQ (A10: long)"; "CKE falling with 0001 is SRE"; "CKE rising with NOP or DES is SRX", of a part that is asleep; "CKE
-- staying low: pins ignored"; rule 1, "Any other CKE change"; 02, Q-1, "drops CKE with NOP or DES", and the rise behind it
unfoldable pub rows : List Row
rows =
    row 0 "MRS" 1 1 x 0 0 0 0 x "writes the mode register that BA names"
    ∷ row 1 "REF" 1 1 x 0 0 0 1 x "refresh"
    ∷ row 2 "PRE" 1 1 x 0 0 1 0 0 "precharge of one bank"
    ∷ row 3 "PREA" 1 1 x 0 0 1 0 1 "precharge of all banks"
    ∷ row 4 "ACT" 1 1 x 0 0 1 1 x "opens a row of a bank"
    ∷ row 5 "WR" 1 1 x 0 1 0 0 0 "write"
    ∷ row 6 "WRA" 1 1 x 0 1 0 0 1 "write with auto precharge"
    ∷ row 7 "RD" 1 1 x 0 1 0 1 0 "read"
    ∷ row 8 "RDA" 1 1 x 0 1 0 1 1 "read with auto precharge"
    ∷ row 9 "ZQCL" 1 1 x 0 1 1 0 1 "long ZQ calibration"
    ∷ row 10 "ZQCS" 1 1 x 0 1 1 0 0 "short ZQ calibration"
    ∷ row 11 "NOP" 1 1 x 0 1 1 1 x "no operation"
    ∷ row 12 "DES" 1 1 x 1 x x x x "deselected"
    ∷ row 13 "SRE" 1 0 x 0 0 0 1 x "self-refresh entry: CKE falls with the pins of a REF"
    ∷ row 14 "SRX" 0 1 1 0 1 1 1 x "self-refresh exit: CKE rises with a NOP or a DES"
    ∷ row 14 "SRX" 0 1 1 1 x x x x "self-refresh exit: CKE rises with a NOP or a DES"
    ∷ row 15 "IGNORED" 0 0 x x x x x x "CKE stays low: the pins are ignored"
    ∷ row 16 "FORBIDDEN" 1 0 x 0 0 0 0 x "any other CKE change: rule 1"
    ∷ row 16 "FORBIDDEN" 1 0 x 0 0 1 x x "any other CKE change: rule 1"
    ∷ row 16 "FORBIDDEN" 1 0 x 0 1 0 x x "any other CKE change: rule 1"
    ∷ row 16 "FORBIDDEN" 1 0 x 0 1 1 0 x "any other CKE change: rule 1"
    ∷ row 16 "FORBIDDEN" 0 1 x 0 0 x x x "any other CKE change: rule 1"
    ∷ row 16 "FORBIDDEN" 0 1 x 0 1 0 x x "any other CKE change: rule 1"
    ∷ row 16 "FORBIDDEN" 0 1 x 0 1 1 0 x "any other CKE change: rule 1"
    ∷ row 17 "PDE" 1 0 x 0 1 1 1 x "power-down entry: CKE falls with a NOP or a DES"
    ∷ row 17 "PDE" 1 0 x 1 x x x x "power-down entry: CKE falls with a NOP or a DES"
    ∷ row 18 "PDX" 0 1 0 0 1 1 1 x "power-down exit: CKE rises with a NOP or a DES"
    ∷ row 18 "PDX" 0 1 0 1 x x x x "power-down exit: CKE rises with a NOP or a DES"
    ∷ []

-- a place, or the last one
abbrev pub within : (most : ℕ) → ℕ → ℕ
within most i = cond (ltb i most) i most

-- no row
abbrev pub blank : Row
blank = record { kind = 0; name = []; levels = []; meaning = [] }

unfoldable pub row_of : (place : ℕ) → Row
row_of i = get_or rows (within 27 i) blank

-- the first of n places from i on whose row is of the kind; the place behind them if there is none
abbrev pub place_from : (n i kind : ℕ) → ℕ
place_from zero i k = i
place_from (suc n) i k = cond (eqb (row_of i).kind k) i (place_from n (i + 1) k)

-- the place of the first row of a kind; the last place if there is none
unfoldable pub place_of : (kind : ℕ) → ℕ
place_of k = place_from 27 0 k

-- ── A row as a report prints it ─────────────────────────────────────────────────────────────

-- the count of a kind in a tally; there are nineteen
abbrev pub count_in : (counts : List ℕ) (kind : ℕ) → ℕ
count_in counts k = cond (ltb k 19) (get_or counts k 0) 0

-- with the count of its own kind
unfoldable pub line_of : (place : ℕ) (counts : List ℕ) → Line
line_of i counts = record { row = row_of i; first = eqb (place_of (row_of i).kind) i; count = count_in counts (row_of i).kind }

-- ── Which rows a record shows ───────────────────────────────────────────────────────────────

-- the level of a pin is that of the row, or the row takes any
abbrev pub fits : (row : Level) (pin : ℕ) → Bool
fits Low p = eqb p 0
fits High p = eqb p 1
fits Any p = true

abbrev pub all_fit : (row : List Level) (pins : List ℕ) → Bool
all_fit (l ∷ ls) (p ∷ ps) = fits l p && all_fit ls ps
all_fit [] ps = true
all_fit (l ∷ ls) [] = false

abbrev pub level : Bool → ℕ
level b = cond b 1 0

-- CS, RAS, CAS, WE are the bits of the pins, in this order
abbrev pub shows_by : Row → (before now asleep : Bool) (pins : ℕ) (a10 : Bool) → Bool
shows_by w before now asleep pins a =
    all_fit w.levels (level before ∷ level now ∷ level asleep ∷ pins / 8 % 2 ∷ pins / 4 % 2 ∷ pins / 2 % 2 ∷ pins % 2 ∷ level a ∷ [])

-- the record, after the CKE level before it and whether the part was asleep, shows the row
abbrev pub shows : Row → (before asleep : Bool) → Record → Bool
shows w before asleep r = shows_by w before r.cke asleep r.pins (a10 r)

-- at how many of the places below n there is a row that the record shows
abbrev pub shown_below : (n : ℕ) → (before asleep : Bool) → Record → ℕ
shown_below zero before asleep r = 0
shown_below (suc n) before asleep r = cond (shows (row_of n) before asleep r) 1 0 + shown_below n before asleep r
