-- What a record does and needs. c is its command, r the record, e its edge, n its number, g the registers in force at it.
-- Assumes nothing.
use Rattle.std.specs.Prelude.{ℕ, ◌+◌, ◌-◌, max, Bool, cond, ◌&&◌, ◌||◌, eqb, ltb}
use Rattle.records.specs.declared.Record.{Record}
use Rattle.records.specs.declared.Command.{Command}
use Rattle.records.specs.declared.Command.TheVariants.{Mrs, Pre, Wr, Rd, Sre, Srx, Pde, Pdx}
use Rattle.records.specs.Command.{is_a, a10, bank_in}
use Rattle.codes.specs.Codes.{resets}
use Rattle.chip.specs.declared.Chip.{Chip}
use Rattle.chip.specs.declared.Regs.{Regs}
use Rattle.chip.specs.Latencies.{al_of, cwl_of, wr_of, h_of}
use Rattle.running.specs.declared.Mark.{Mark}
use Rattle.running.specs.declared.Kept.{Kept}

abbrev pub mark : (e n need : ℕ) → Mark
mark e n need = record { at = e; num = n; need = need }

-- ── Registers ───────────────────────────────────────────────────────────────────────────────

-- an MRS to the register k
abbrev pub sets : ℕ → Command → Record → Bool
sets k c r = is_a Mrs c && eqb (bank_in r) k

-- a change of CKE that is allowed
abbrev pub changing : Command → Bool
changing c = is_a Sre c || (is_a Srx c || (is_a Pde c || is_a Pdx c))

-- an MRS to MR0 that resets the DLL
abbrev pub resets_now : Command → Record → Bool
resets_now c r = sets 0 c r && resets r.a

-- ── Banks ───────────────────────────────────────────────────────────────────────────────────

-- the record closes its own bank (PRE, or RD or WR with auto precharge)
abbrev pub shuts_now : Command → Record → Bool
shuts_now c r = is_a Pre c || (is_a Rd c || is_a Wr c) && a10 r

-- the start of the record's precharge, of a bank whose ACT is at edge a
unfoldable pub start_now : Chip → Command → (e : ℕ) → Regs → (a : ℕ) → ℕ
start_now C c e g a =
    cond (is_a Pre c) e
    (cond (is_a Rd c) (max (a + C.tras) (e + al_of g + C.trtp)) (e + (al_of g + cwl_of g) + h_of g + wr_of g))

abbrev pub need4 : Chip → Regs → ℕ
need4 C g = max (C.trcd - al_of g) 1

abbrev pub need10 : Chip → Regs → ℕ
need10 C g = al_of g + C.trtp

abbrev pub need11 : Chip → Regs → ℕ
need11 C g = al_of g + cwl_of g + h_of g + C.twr

abbrev pub pre_all : Command → Record → Bool
pre_all c r = is_a Pre c && a10 r

-- the edge at which a bank breaks rule 24, if that lies after the latest record; 0: none
unfoldable pub due : Chip → Kept → ℕ
due C k =
    cond (ltb k.shut.num k.acted.num) (k.acted.at + C.most + 1)
    (cond (ltb (k.acted.at + C.most) k.shut.at) (k.acted.at + C.most + 1) 0)
