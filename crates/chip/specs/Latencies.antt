-- What the registers in force set: 01, "Registers", and "In mode by A12 .." of "Commands and the 25 rules".
-- Assumes nothing.
use Rattle.std.specs.Prelude.{ℕ, cond, eqb}
use Rattle.codes.specs.Codes.{set, burst, al, cl, cwl, wr}
use Rattle.chip.specs.declared.Regs.{Regs}

abbrev pub al_of : Regs → ℕ
al_of g = al g.mr0 g.mr1

abbrev pub cl_of : Regs → ℕ
cl_of g = cl g.mr0

abbrev pub cwl_of : Regs → ℕ
cwl_of g = cwl g.mr2

-- programmed WR
abbrev pub wr_of : Regs → ℕ
wr_of g = wr g.mr0

-- "h is 4, but 2 when MR0 fixes four"
unfoldable pub h_of : Regs → ℕ
h_of g = cond (eqb (burst g.mr0) 2) 2 4

-- "A read's b is 4 for eight words, 2 for four"; "in mode by A12, A12 = 0 chops to four"
unfoldable pub b_of : Regs → (a : ℕ) → ℕ
b_of g a = cond (eqb (burst g.mr0) 0) 4 (cond (eqb (burst g.mr0) 1) (cond (set a 12) 4 2) 2)
