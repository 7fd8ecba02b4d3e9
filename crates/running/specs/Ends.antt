-- A rank's beginning and its end, for every rank and chip: 01, "The recording", below the table of refusals.
-- Assumes nothing.
use Rattle.std.specs.Prelude.{ℕ, ◌-◌, cond, Option, None, List, [], ◌∷◌, replicate}
use Rattle.answers.specs.declared.Shown.{Shown}
use Rattle.answers.specs.declared.Shown.TheVariants.{Idle}
use Rattle.answers.specs.declared.Verdict.{Verdict}
use Rattle.answers.specs.Answer.{code_if}
use Rattle.answers.specs.declared.End.{End}
use Rattle.chip.specs.declared.Regs.{Regs}
use Rattle.running.specs.declared.Written.{Written}
use Rattle.running.specs.Said.{no_verdict, is_clean}

-- banks, registers and debt are those at the end edge, or one edge before the broken one
abbrev pub rest_of : Verdict → (end : ℕ) → ℕ
rest_of v t = cond (is_clean v) t (v.edge - 1)

abbrev pub registers_of : Regs → Written → List (Option ℕ)
registers_of g w = code_if w.w0 g.mr0 ∷ code_if w.w1 g.mr1 ∷ code_if w.w2 g.mr2 ∷ code_if w.w3 g.mr3 ∷ []

abbrev pub no_register : Option ℕ
no_register = None

abbrev pub idle_bank : Shown
idle_bank = Idle

unfoldable pub no_end : End
no_end = record { verdict = no_verdict; banks = replicate 8 idle_bank; registers = replicate 4 no_register; owed = 0 }
