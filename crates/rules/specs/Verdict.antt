-- The verdict on a recording, and the banks, registers and debt at its end: 01, "The recording", below the table of refusals.
-- Assumes nothing.
use Rattle.std.specs.Prelude.{ℕ, zero, suc, ◌-◌, ◌≤◌, cond, Option, List, [], ◌∷◌, eqb}
use Rattle.laws.specs.Eight.{table}
use Rattle.records.specs.declared.Record.{Record}
use Rattle.chip.specs.declared.Chip.{Chip}
use Rattle.answers.specs.declared.Bank.{Bank}
use Rattle.answers.specs.declared.Break.{Break}
use Rattle.answers.specs.declared.Break.TheVariants.{Fine, Broken}
use Rattle.answers.specs.declared.Verdict.{Verdict}
use Rattle.answers.specs.Answer.{shown_of, code_if}
use Rattle.answers.specs.declared.End.{End}
use Rattle.rules.specs.Past.{Past, edge, number, up_to}
use Rattle.rules.specs.Registers.{Register, mr}
use Rattle.rules.specs.Banks.{status}
use Rattle.rules.specs.Rules.{checks, change_checks, exit_checks}
use Rattle.rules.specs.Deadlines.{rule24, rule25, rule28, rule31, owed_at}

-- ── An edge ─────────────────────────────────────────────────────────────────────────────────

-- no broken edge, or the first: its record, 0 if none, and what is broken there
pub data Outcome : Type 0 where
  clean : Outcome
  stop : (edge num : ℕ) (why : Break) → Outcome

-- of two outcomes the first that stops
unfoldable pub keep : Outcome → Outcome → Outcome
keep clean w = w
keep (stop t n why) w = stop t n why

-- a break at edge t with the number of its record, 0 for none
abbrev pub told : (t n : ℕ) → Break → Outcome
told t n Fine = clean
told t n (Broken rule partner needed found) = stop t n (Broken rule partner needed found)

-- a rule as it is looked at at an edge: the record that stands there breaks it, or it is a deadline, which passes with or without one
pub data Check : Type 0 where
  of_record : (Record → Past → Break) → Check
  deadline : (Past → ℕ → Break) → Check

-- what the record at edge t of the recording p breaks of the rule f, with its number
abbrev pub record_says : (f : Record → Past → Break) → Past → ℕ → Outcome
record_says f [] t = clean
record_says f (r ∷ p) t = cond (eqb (edge (r ∷ p)) t) (told t (number (r ∷ p)) (f r p)) (record_says f p t)

-- what a rule says of edge t; "24 and 25: record none", and 28 and 31
abbrev pub check_says : Check → Past → ℕ → Outcome
check_says (of_record f) p t = record_says f p t
check_says (deadline f) p t = told t 0 (f p t)

-- the first of the rules that is broken at edge t
abbrev pub first_of : List Check → Past → ℕ → Outcome
first_of [] p t = clean
first_of (c ∷ cs) p t = keep (check_says c p t) (first_of cs p t)

-- rules that a record breaks, before others
abbrev pub of_records : List (Record → Past → Break) → List Check → List Check
of_records [] cs = cs
of_records (f ∷ fs) cs = of_record f ∷ of_records fs cs

-- all rules by number, the deadlines in their place
abbrev pub edge_checks : Chip → List Check
edge_checks C =
    of_records (checks C)
    (deadline (rule24 C) ∷ deadline (rule25 C) ∷ of_records (change_checks C) (deadline (rule28 C) ∷ of_records (exit_checks C) (deadline (rule31 C) ∷ [])))

-- the lowest rule broken at edge t
unfoldable pub broken_at : Chip → Past → ℕ → Outcome
broken_at C p t = first_of (edge_checks C) p t

-- ── The verdict ─────────────────────────────────────────────────────────────────────────────

-- the first broken edge from 1 to t of the recording p
unfoldable pub verdict_to : Chip → Past → ℕ → Outcome
verdict_to C p zero = clean
verdict_to C p (suc t) = keep (verdict_to C p t) (broken_at C p (suc t))

-- "outcome 8 (0 clean, 1 broken) .. Clean: rule, partner, needed, found are 0, record is the number of records, edge is the end edge".
-- No verdict stops where all is fine
abbrev pub shown : Outcome → (records end : ℕ) → Verdict
shown clean records end = record { outcome = 0; rule = 0; number = records; partner = 0; edge = end; needed = 0; found = 0 }
shown (stop t n Fine) records end = record { outcome = 1; rule = 0; number = n; partner = 0; edge = t; needed = 0; found = 0 }
shown (stop t n (Broken rule partner needed found)) records end =
    record { outcome = 1; rule = rule; number = n; partner = partner; edge = t; needed = needed; found = found }

-- the verdict on the recording p closed at the edge t
abbrev pub shown_verdict : Chip → Past → ℕ → Verdict
shown_verdict C p t = shown (verdict_to C p t) (number p) t

-- "After each section the verdict so far is as if closed at the last record's edge so far (0 when there is none)."
abbrev pub verdict_so_far : Chip → Past → Verdict
verdict_so_far C p = shown_verdict C p (edge p)

-- ── The end ─────────────────────────────────────────────────────────────────────────────────

-- the edge at which banks, registers and debt are shown: the end t, or, "just before the broken edge", one before it
abbrev pub rest : Outcome → ℕ → ℕ
rest clean t = t
rest (stop u n why) t = u - 1

-- bank n, register n and the debt, plus 8, of the recording p closed at the edge t
abbrev pub bank_at : Chip → Past → ℕ → ℕ → Bank
bank_at C p t n = let u = rest (verdict_to C p t) t in status C n (up_to u p) u

abbrev pub register_at : Chip → Past → ℕ → ℕ → Register
register_at C p t n = mr n (up_to (rest (verdict_to C p t) t) p)

abbrev pub owed_in : Chip → Past → ℕ → ℕ
owed_in C p t = let u = rest (verdict_to C p t) t in owed_at C.trefi (up_to u p) u

abbrev pub register_of : Register → Option ℕ
register_of g = code_if g.written g.code

-- what stands at the end edge t of the recording p: "the verdict, bank states, registers and debt"
unfoldable pub answer : Chip → Past → (end : ℕ) → End
answer C p t =
    record {
      verdict = shown_verdict C p t;
      banks = table (λ b. shown_of (bank_at C p t b));
      registers =
          register_of (register_at C p t 0) ∷ register_of (register_at C p t 1) ∷ register_of (register_at C p t 2)
          ∷ register_of (register_at C p t 3) ∷ [];
      owed = owed_in C p t;
    }

-- ── No step is 0 ────────────────────────────────────────────────────────────────────────────

-- each record stands at least one edge after the one before it: in a past, and in a section, whose first record comes first
abbrev pub Apart : Past → Type 0
Apart [] = Unit {0}
Apart (r ∷ p) = (1 ≤ r.step) × Apart p

abbrev pub Steps : List Record → Type 0
Steps [] = Unit {0}
Steps (r ∷ rs) = (1 ≤ r.step) × Steps rs
