-- What a record breaks of rules 26, 27, 29 and 30, from what is kept.
-- Assumes nothing.
use Rattle.std.specs.Prelude.{ℕ, zero, suc, ◌+◌, Bool, cond, not, List, eqb, ltb, get_or}
use Rattle.answers.specs.declared.Break.{Break}
use Rattle.answers.specs.declared.Break.TheVariants.{Fine, Broken}
use Rattle.records.specs.declared.Record.{Record}
use Rattle.records.specs.declared.Command.{Command}
use Rattle.records.specs.declared.Command.TheVariants.{Rd, Pde}
use Rattle.records.specs.Command.{is_a, counts}
use Rattle.chip.specs.declared.Chip.{Chip}
use Rattle.chip.specs.declared.Regs.{Regs}
use Rattle.chip.specs.Latencies.{al_of, cl_of, cwl_of, wr_of, h_of}
use Rattle.running.specs.declared.Mark.{Mark}
use Rattle.running.specs.declared.Kept.{Kept}
use Rattle.running.specs.declared.Read.{Read}
use Rattle.running.specs.declared.Shared.{Shared}
use Rattle.running.specs.Marks.{empty, needing, spaced}
use Rattle.running.specs.Breaks.{when_is}

-- ── Rule 26 ─────────────────────────────────────────────────────────────────────────────────

-- of two breaks of one rule that by the later record
unfoldable pub later_of : Break → Break → Break
later_of Fine y = y
later_of (Broken k n m f) Fine = Broken k n m f
later_of (Broken k n m f) (Broken l o p q) = cond (ltb n o) (Broken l o p q) (Broken k n m f)

-- of n of them
unfoldable pub latest_of : (ℕ → Break) → ℕ → Break
latest_of f zero = Fine
latest_of f (suc n) = later_of (latest_of f n) (f n)

-- what a RD, and a WR with auto precharge, ask of an entry by the registers g
abbrev pub of_read : Regs → ℕ
of_read g = al_of g + cl_of g + 5

abbrev pub of_auto : Regs → ℕ
of_auto g = al_of g + cwl_of g + h_of g + wr_of g + 1

-- what a RD asks whose number is n, and k by the registers in force now. They are its own where no MRS came since; where one came it had
-- waited for the RD's clocks, so that it breaks the rule itself, or neither does
abbrev pub read_asks : (k mrs n : ℕ) → ℕ
read_asks k m n = cond (ltb m n) k 0

-- The same of a WR, of which `shut` closed its bank. It has auto precharge where it is that record itself; where another closed the bank later
-- it had been precharged by then, and so it was where an MRS came since
abbrev pub write_asks : (k mrs shut n plain : ℕ) → ℕ
write_asks k m s n plain = cond (eqb s n) (read_asks k m n) plain

-- the latest RD, and the latest WR of a bank
abbrev pub entry_read : Regs → (mrs : Mark) → Read → Mark
entry_read g m s = record { at = s.at; num = s.num; need = read_asks (of_read g) m.num s.num }

abbrev pub entry_write : Regs → (mrs : Mark) → Kept → Mark
entry_write g m k =
    record { at = k.wrote.at; num = k.wrote.num; need = write_asks (of_auto g) m.num k.shut.num k.wrote.num k.wrote.need }

abbrev pub check26 : (e : ℕ) → Mark → Break
check26 e m = spaced 26 e m Fine

-- ks: the eight banks
unfoldable pub rule26 : Chip → Command → List Kept → Shared → (e : ℕ) → Break
rule26 C c ks s e =
    cond (is_a Pde c)
    (later_of (latest_of (λ b. check26 e (entry_write s.regs s.mrs (get_or ks b empty))) 8)
    (later_of (check26 e (entry_read s.regs s.mrs s.read)) (check26 e (needing C.tmod s.mrs))))
    Fine

-- ── The others ──────────────────────────────────────────────────────────────────────────────

-- CKE changes at the record, by its level before
abbrev pub turns : (level : Bool) → Record → Bool
turns l r = cond l (not r.cke) r.cke

-- x: CKE changes at the record
abbrev pub rule27 : (x : Bool) → (e : ℕ) → Shared → Break
rule27 x e s = when_is x 27 e s.rests.turned Fine

-- rules 29 and 30
unfoldable pub exit_rules : Command → (e : ℕ) → Shared → Break
exit_rules c e s = when_is (counts c) 29 e s.rests.left (when_is (is_a Rd c) 30 e s.rests.slow Fine)
